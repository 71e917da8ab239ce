-- `add_symbol` meets its contract. Assumes nothing.
use Rattle.c_lending.proofs.EditExits.{symbol-told}
use Rattle.c_api.proofs.lent_additions.add_symbol.Goals as goal

pub returns : goal.returns
returns c = symbol-told _ _ _ c.counts_of-c.ensures _ _ _ _ _ _ c.add_symbol-r.ensures c.finish.ensures
