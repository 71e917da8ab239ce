-- `finish` meets its contract. Assumes nothing.
use Rattle.c_lending.proofs.EditExits.{counts-written}
use Rattle.c_lending.proofs.finish.Goals as goal

pub returns-in-Ok : goal.returns-in-Ok
returns-in-Ok c = counts-written c.args.counts.now c.put_counts.new.counts c.args.r _ c.in-Ok.is c.put_counts.ensures
