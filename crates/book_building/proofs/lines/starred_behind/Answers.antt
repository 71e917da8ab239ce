-- `starred_behind` meets its contract. Assumes nothing.
use borrow.Author.Tests.{eq-eqb, ne_eqb}
use Rattle.book_building.proofs.lines.starred_behind.Goals as goal

pub returns-then-section-ne-LOCAL : goal.returns-then-section-ne-LOCAL
returns-then-section-ne-LOCAL c = rw (c.if-g.false, ne_eqb _ _ c.if-section-ne-LOCAL.true)

pub returns-then-class-ne-ALL_CLASS : goal.returns-then-class-ne-ALL_CLASS
returns-then-class-ne-ALL_CLASS c = rw (c.if-g.false, eq-eqb _ _ c.if-section-ne-LOCAL.false, ne_eqb _ _ c.if-class-ne-ALL_CLASS.true)

pub returns : goal.returns
returns c = rw (c.if-g.false, eq-eqb _ _ c.if-section-ne-LOCAL.false, eq-eqb _ _ c.if-class-ne-ALL_CLASS.false)
