-- `tuno_why` meets its contract, which is that of the function that it calls. Assumes nothing.
use Rattle.c_api_c.proofs.questions.tuno_why.Goals as goal

pub returns : goal.returns
returns c = c.tuno_why.ensures
