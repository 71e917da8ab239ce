-- `strike` meets its contract. Assumes nothing.
use Rattle.c_lending.proofs.EditExits.{strike-told}
use Rattle.c_api.proofs.lent_edits.strike.Goals as goal

pub returns : goal.returns
returns c = strike-told _ _ _ c.counts_of-c.ensures _ _ _ _ _ c.strike-r.ensures c.finish.ensures
