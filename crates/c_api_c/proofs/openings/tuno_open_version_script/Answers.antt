-- `tuno_open_version_script` meets its contract, which is that of the function that it calls. Assumes nothing.
use Rattle.c_api_c.proofs.openings.tuno_open_version_script.Goals as goal

pub returns : goal.returns
returns c = c.tuno_open_version_script.ensures
