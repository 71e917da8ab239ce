-- The text before the mark lies within the input. Assumes nothing.
use Prim.Native.Nat.{ℕ, ◌<◌}
use mathlib.Core.Path.{◌≡◌, sym, ◌∙◌}
use mathlib.Core.List.{List}
use native.Mathlib.Omega.{arith}
use lib.ListN.{length, take}
use lib.Seq.{length-take-le}
use Rattle.std.specs.Prelude.{Option, Some}
use Rattle.input.specs.Splitting.{mark}
use Rattle.input.proofs.Marks.{mark-within}

module _ (s : List ℕ) (x : Option ℕ) (e : x ≡ mark s) (p : ℕ) (f : x ≡ Some p) where
  pub text-within : p < length s
  text-within = mark-within s p (sym e ∙ f)

  pub text-count : p ≡ length (take p s)
  text-count = sym (length-take-le p s (omega (arith, text-within)))
