-- `tuno_contains` meets its contract, which is that of the function that it calls. Assumes nothing.
use Rattle.c_api.proofs.questions.tuno_contains.Goals as goal

pub returns : goal.returns
returns c = c.contains.ensures
