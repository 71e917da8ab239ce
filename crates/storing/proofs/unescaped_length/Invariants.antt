-- `unescaped_length` meets its contract. The loop's invariant: the bytes counted, with those that are left, are all. Assumes nothing.
use Prim.Native.Nat.{◌-◌}
use lib.ListN.{length}
use Rattle.storing.proofs.Keeping.{Counted}
use Rattle.storing.proofs.unescaped_length.Given as goal

abbrev pub invariant-loop-i : goal.invariant-loop-i
invariant-loop-i l = Counted l.pattern l.i l.n

abbrev pub decreases-loop-i : goal.decreases-loop-i
decreases-loop-i l = length l.pattern - l.i
