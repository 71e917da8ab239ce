-- `same_bytes` meets its contract. The loop's invariant: both have one length, and the first i and the last i are equal. Assumes nothing.
use Rattle.packing.proofs.Alike.{Alike}
use Rattle.packing.proofs.same_bytes.Given as goal

abbrev pub invariant-loop-i : goal.invariant-loop-i
invariant-loop-i l = Alike l.a l.b l.i
