-- `copy_unescaped` meets its contract. The loop's invariant: the buffer's front holds the bytes passed, without their escapes. Assumes nothing.
use Prim.Native.Nat.{◌-◌, ◌≤◌}
use lib.ListN.{length, drop}
use Rattle.lists.proofs.FrontLaws.{Written}
use Rattle.storing.specs.Keeping.{unescape}
use Rattle.storing.proofs.copy_unescaped.Given as goal

abbrev pub invariant-loop-i : goal.invariant-loop-i
invariant-loop-i l = (l.n ≤ l.i) × Written (unescape l.src) l.initial.out l.out l.n (unescape (drop l.i l.src))

abbrev pub decreases-loop-i : goal.decreases-loop-i
decreases-loop-i l = length l.src - l.i
