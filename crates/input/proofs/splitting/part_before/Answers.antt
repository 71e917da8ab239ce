-- `part_before` meets its contract. Assumes nothing.
use Rattle.input.proofs.Halves.{before_all, before_count, before_part}
use Rattle.input.proofs.splitting.part_before.Goals as goal

pub slice_bounds-result-end : goal.slice_bounds-result-end
slice_bounds-result-end c = search before_count

pub returns-in-None : goal.returns-in-None
returns-in-None c = search before_all

pub returns-in-Some : goal.returns-in-Some
returns-in-Some c = search before_part
