-- `first_star` meets its contract. The loop's invariant: the search goes on at line i. Assumes nothing.
use Rattle.lookups.proofs.Firsts.{firsts_starts, firsts_none, star_here, star_other}
use Rattle.reasons.proofs.telling.first_star.Goals as goal

pub loop-i-init : goal.loop-i-init
loop-i-init c = search firsts_starts

pub returns-then-is_bare_star : goal.returns-then-is_bare_star
returns-then-is_bare_star c = search star_here

pub loop-i-preserved : goal.loop-i-preserved
loop-i-preserved c = search star_other

pub returns : goal.returns
returns c = search firsts_none
