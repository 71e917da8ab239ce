-- `analyze_glob_pattern` meets its contract. The loop's invariant: what is left decides. Assumes nothing.
use Prim.Native.Nat.{◌-◌}
use mathlib.Core.Bool.{false}
use mathlib.Core.Path.{◌≡◌}
use lib.ListN.{length, drop}
use Rattle.classes.specs.Classes.{scan}
use Rattle.classes.specs.declared.Class.TheVariants.{Exact}
use Rattle.classes.proofs.analyze_glob_pattern.Given as goal

abbrev pub invariant-loop-i : goal.invariant-loop-i
invariant-loop-i l = scan Exact false l.pattern ≡ scan l.class false (drop l.i l.pattern)

abbrev pub decreases-loop-i : goal.decreases-loop-i
decreases-loop-i l = length l.pattern - l.i
