-- `has_star` meets its contract. The loop's invariant: the lines from i on decide. Assumes nothing.
use Rattle.book_check.proofs.LineRows.{stars_start, star-found, star_next, star_none}
use Rattle.book_check.proofs.lines.has_star.Goals as goal

pub loop-i-init : goal.loop-i-init
loop-i-init c = search stars_start

pub returns-then-is_bare_star : goal.returns-then-is_bare_star
returns-then-is_bare_star c = star-found c.loop-i.invariant c.loop-i-test.true c.is_bare_star.ensures c.if-is_bare_star.true

pub loop-i-preserved : goal.loop-i-preserved
loop-i-preserved c = star_next c.loop-i.invariant c.loop-i-test.true c.is_bare_star.ensures c.if-is_bare_star.false

pub returns : goal.returns
returns c = search star_none
