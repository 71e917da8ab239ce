-- `position_of` meets its contract. Assumes nothing.
use Rattle.input.proofs.Positioned.{walk_arrives, walk-line, walk_on, walk-starts}
use Rattle.input.proofs.positions.position_of.Goals as goal
use Rattle.input.proofs.positions.position_of.Goals.{then-b-eq10, else-b-eq10}

pub loop-b-init : goal.loop-b-init
loop-b-init c = walk-starts

pub loop-b-preserved : goal.loop-b-preserved
loop-b-preserved c = elim c.if-b-eq10.branch [ then-b-eq10 w ↦ rw (w.line-is, w.column-is) (walk-line c.loop-b.invariant c.loop-b-test.true w.if-b-eq10.true) | else-b-eq10 w ↦ rw (w.line-is, w.column-is) (walk_on c.loop-b.invariant c.loop-b-test.true w.if-b-eq10.false) ]

pub returns : goal.returns
returns c = search walk_arrives
