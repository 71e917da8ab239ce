-- `tuno_undo` meets its contract, which is that of the function that it calls. Assumes nothing.
use Rattle.c_api_c.proofs.edits.tuno_undo.Goals as goal

pub returns : goal.returns
returns c = c.tuno_undo.ensures
