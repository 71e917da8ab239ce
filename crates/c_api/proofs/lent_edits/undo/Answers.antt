-- `undo` meets its contract. Assumes nothing.
use Rattle.c_lending.proofs.EditExits.{undo-told}
use Rattle.c_api.proofs.lent_edits.undo.Goals as goal

pub returns : goal.returns
returns c = undo-told _ _ _ c.counts_of-c.ensures _ _ _ _ c.undo_latest-r.ensures c.finish.ensures
