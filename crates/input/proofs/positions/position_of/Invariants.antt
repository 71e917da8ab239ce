-- `position_of` meets its contract. The loop's invariant: the bytes that are left before the place decide. Assumes nothing.
use Rattle.input.proofs.Positioned.{Walked}
use Rattle.input.proofs.positions.position_of.Given as goal

abbrev pub invariant-loop-b : goal.invariant-loop-b
invariant-loop-b l = Walked l.before l.line l.column l.b-index
