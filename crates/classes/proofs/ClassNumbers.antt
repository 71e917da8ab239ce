-- The numbers of classes are few. Assumes nothing.
use Prim.Native.Nat.{◌≤◌}
use native.Mathlib.Omega.{arith}
use Rattle.numbers.specs.Classes.{all_class}
use Rattle.classes.specs.declared.Class.{Class}
use Rattle.classes.specs.declared.Class.TheVariants.{Exact, Escaped, NonStar, Star, All}
use Rattle.classes.specs.Classes.{class_number}

pub class-few : (k : Class) → class_number k ≤ all_class
class-few Exact = omega arith
class-few Escaped = omega arith
class-few NonStar = omega arith
class-few Star = omega arith
class-few All = omega arith
