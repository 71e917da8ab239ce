-- `tuno_version_count` meets its contract, which is that of the function that it calls. Assumes nothing.
use Rattle.c_api_c.proofs.questions.tuno_version_count.Goals as goal

pub returns : goal.returns
returns c = c.tuno_version_count.ensures
