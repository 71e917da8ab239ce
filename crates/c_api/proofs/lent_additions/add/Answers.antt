-- `add` meets its contract. Assumes nothing.
use Rattle.c_lending.proofs.EditExits.{add-told}
use Rattle.c_api.proofs.lent_additions.add.Goals as goal

pub returns : goal.returns
returns c = add-told _ _ _ c.counts_of-c.ensures _ _ _ _ _ _ _ _ c.add-r.ensures c.finish.ensures
