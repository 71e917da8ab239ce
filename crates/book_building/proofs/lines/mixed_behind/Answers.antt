-- `mixed_behind` meets its contract. Assumes nothing.
use borrow.Author.Tests.{eq-eqb, ne_eqb}
use Rattle.book_building.proofs.lines.mixed_behind.Goals as goal

pub returns-then-section-ne-GLOBAL : goal.returns-then-section-ne-GLOBAL
returns-then-section-ne-GLOBAL c = rw (ne_eqb _ _ c.if-section-ne-GLOBAL.true, c.if-g.false)

pub returns : goal.returns
returns c = rw (eq-eqb _ _ c.if-section-ne-GLOBAL.false, c.if-g.false)
