-- `kept_length` meets its contract. The loop's invariant: the bytes counted, with those that are left, are all. Assumes nothing.
use Rattle.storing.proofs.Squeezing.{Kept}
use Rattle.storing.proofs.runs.kept_length.Given as goal

abbrev pub invariant-loop-i : goal.invariant-loop-i
invariant-loop-i l = Kept l.edition l.token l.w l.i l.n
