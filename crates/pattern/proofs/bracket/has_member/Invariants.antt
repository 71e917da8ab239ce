-- `has_member` meets its contract. The loop's invariant: the members that are left decide. Assumes nothing.
use Prim.Native.Nat.{◌-◌}
use mathlib.Core.Path.{◌≡◌}
use lib.ListN.{length}
use Rattle.pattern.proofs.BracketExits.{holds_from}
use Rattle.pattern.proofs.bracket.has_member.Given as goal

abbrev pub invariant-loop-at : goal.invariant-loop-at
invariant-loop-at l = holds_from l.edition l.body l.x 0 ≡ holds_from l.edition l.body l.x l.at

abbrev pub decreases-loop-at : goal.decreases-loop-at
decreases-loop-at l = length l.body - l.at
