-- `places` meets its contract. The loop's invariant: the digits of `rest` are left to count. Assumes nothing.
use Rattle.printing.proofs.Digits.{Counting}
use Rattle.printing.proofs.places.Given as goal

abbrev pub invariant-loop-rest : goal.invariant-loop-rest
invariant-loop-rest l = Counting l.n l.k l.rest

abbrev pub decreases-loop-rest : goal.decreases-loop-rest
decreases-loop-rest l = l.rest
