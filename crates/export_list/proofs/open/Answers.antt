-- `open` meets its contract, which is that of the opening that it calls. Assumes nothing.
use Rattle.export_list.proofs.open.Goals as goal

pub returns : goal.returns
returns c = c.open.ensures
