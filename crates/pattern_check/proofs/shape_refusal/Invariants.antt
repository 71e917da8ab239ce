-- `shape_refusal` meets its contract, by the laws of Refusals. The loop's invariant: what is left decides. Assumes nothing.
use Prim.Native.Nat.{◌-◌}
use lib.ListN.{length}
use Rattle.pattern_check.proofs.Refusals.{Decides}
use Rattle.pattern_check.proofs.shape_refusal.Given as goal

abbrev pub invariant-loop-at : goal.invariant-loop-at
invariant-loop-at l = Decides l.edition l.p l.token l.at

abbrev pub decreases-loop-at : goal.decreases-loop-at
decreases-loop-at l = length l.p - l.at
