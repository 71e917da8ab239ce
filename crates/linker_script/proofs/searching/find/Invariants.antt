-- `find` meets its contract. The loops' invariant: what is found from i on decides. Assumes nothing.
use Prim.Native.Nat.{◌-◌}
use mathlib.Core.Path.{◌≡◌}
use lib.ListN.{length}
use Rattle.linker_script.specs.Finding.{first_from, is}
use Rattle.linker_script.proofs.searching.find.Given as goal

abbrev pub invariant-loop-k : goal.invariant-loop-k
invariant-loop-k l = first_from (is l.x) l.s l.at ≡ first_from (is l.x) l.s l.i

abbrev pub decreases-loop-k : goal.decreases-loop-k
decreases-loop-k l = length l.s - l.i

abbrev pub invariant-loop-j : goal.invariant-loop-j
invariant-loop-j l = first_from (is l.x) l.s l.at ≡ first_from (is l.x) l.s l.j
