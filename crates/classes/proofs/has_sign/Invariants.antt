-- `has_sign` meets its contract. Assumes nothing.
use Rattle.classes.proofs.Scanning.{Block}
use Rattle.classes.proofs.has_sign.Given as goal

abbrev pub invariant-loop-i : goal.invariant-loop-i
invariant-loop-i l = Block l.pattern l.at l.found l.i
