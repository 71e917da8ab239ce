-- `tuno_parent_count` meets its contract, which is that of the function that it calls. Assumes nothing.
use Rattle.c_api.proofs.questions.tuno_parent_count.Goals as goal

pub returns : goal.returns
returns c = c.parent_count.ensures
