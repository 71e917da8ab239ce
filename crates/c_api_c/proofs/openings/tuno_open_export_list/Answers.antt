-- `tuno_open_export_list` meets its contract, which is that of the function that it calls. Assumes nothing.
use Rattle.c_api_c.proofs.openings.tuno_open_export_list.Goals as goal

pub returns : goal.returns
returns c = c.tuno_open_export_list.ensures
