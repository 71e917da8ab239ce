-- `skip_comments_and_whitespace` meets its contract. The loop's invariant: the skip from i on decides. Assumes nothing.
use Prim.Native.Nat.{◌-◌}
use mathlib.Core.Path.{◌≡◌}
use lib.ListN.{length}
use Rattle.linker_script.specs.Skip.{skip}
use Rattle.linker_script.proofs.comments.skip_comments_and_whitespace.Given as goal

abbrev pub invariant-loop-i : goal.invariant-loop-i
invariant-loop-i l = skip l.edition l.s l.at ≡ skip l.edition l.s l.i

abbrev pub decreases-loop-i : goal.decreases-loop-i
decreases-loop-i l = length l.s - l.i
