-- `find_pair` meets its contract. The loop's invariant: what is found from i on decides. Assumes nothing.
use Prim.Native.Nat.{◌-◌}
use mathlib.Core.Path.{◌≡◌}
use lib.ListN.{length}
use Rattle.linker_script.specs.Finding.{first_from, are}
use Rattle.linker_script.proofs.comments.find_pair.Given as goal

abbrev pub invariant-loop-i : goal.invariant-loop-i
invariant-loop-i l = first_from (are l.x l.y) l.s l.at ≡ first_from (are l.x l.y) l.s l.i

abbrev pub decreases-loop-i : goal.decreases-loop-i
decreases-loop-i l = length l.s - l.i
