-- `settle` meets its contract. Assumes nothing.
use Rattle.c_lending.proofs.EditExits.{settle-told}
use Rattle.c_api.proofs.lent_edits.settle.Goals as goal

pub returns : goal.returns
returns c = settle-told _ _ _ c.counts_of-c.ensures _ _ _ _ c.settle-r.ensures c.finish.ensures
