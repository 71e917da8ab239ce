-- `tuno_settle` meets its contract, which is that of the function that it calls. Assumes nothing.
use Rattle.c_api_c.proofs.edits.tuno_settle.Goals as goal

pub returns : goal.returns
returns c = c.tuno_settle.ensures
