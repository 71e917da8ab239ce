-- `put_number` meets its contract. The loop's invariant: the digits behind i stand, and those of `rest` are left to be written. Assumes nothing.
use Rattle.printing.proofs.Digits.{Filling}
use Rattle.printing.proofs.put_number.Given as goal

abbrev pub invariant-loop-i : goal.invariant-loop-i
invariant-loop-i l = Filling l.initial.out l.at l.n l.out l.i l.rest
