-- `is_as_stored` meets its contract. The loop's invariant: what is left from i on decides. Assumes nothing.
use Rattle.storing.proofs.Squeezing.{Unchanged}
use Rattle.storing.proofs.runs.is_as_stored.Given as goal

abbrev pub invariant-loop-i : goal.invariant-loop-i
invariant-loop-i l = Unchanged l.edition l.glob l.w l.i
