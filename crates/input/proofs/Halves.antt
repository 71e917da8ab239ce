-- A line taken apart at the first byte of a kind: what stands before it, and what stands behind. Assumes nothing.
use Prim.Native.Nat.{ℕ, ◌+◌, ◌-◌, ◌≤◌, ◌<◌}
use mathlib.Core.Path.{◌≡◌, refl, sym, ◌∙◌}
use mathlib.Core.List.{List, []}
use mathlib.Core.Bool.{cond}
use native.Mathlib.Omega.{arith}
use borrow.Author.Tests.{lt-ltb, le-ltb}
use lib.Dec.{ltb}
use lib.ListN.{length, take, drop, length-drop, length-take, drop_of_length-le}
use lib.Seq.{length-take-le, take_all}
use Rattle.std.specs.Prelude.{Option, Some, None}
use Rattle.linker_script.specs.Finding.{first_from, is}
use Rattle.linker_script.proofs.Searches.{first_within}
use Rattle.input.specs.Splitting.{demangled_by, part_before, wanted_by}

-- ---- before the byte
module _ (t : List ℕ) (b : ℕ) (x : Option ℕ) (e : x ≡ first_from (is b) t 0) where
  pub before_all : x ≡ None → t ≡ part_before t (first_from (is b) t 0)
  before_all f = rw (← e, f)

  module _ (p : ℕ) (f : x ≡ Some p) where
    pub before_count : p ≡ length (take p t)
    before_count = sym (length-take-le p t (omega (arith, (first_within (sym e ∙ f)).within)))

    pub before_part : take p t ≡ part_before t (first_from (is b) t 0)
    before_part = rw (← e, f)

-- ---- behind n bytes and one more
module _ (t : List ℕ) (n : ℕ) where
  pub behind_none : length t ≤ n → take (length t - length t) (drop (length t) t) ≡ drop (n + 1) t
  behind_none h =
      rw (drop_of_length-le t {i = n + 1} (omega arith), drop_of_length-le t {i = length t} (omega arith)) (take_all (length t - length t) [] (omega arith))

  pub behind_some : n < length t → take (length t - (n + 1)) (drop (n + 1) t) ≡ drop (n + 1) t
  behind_some h = take_all (length t - (n + 1)) (drop (n + 1) t) (omega (arith, length-drop (n + 1) t))

-- ---- the part before is shorter where there is such a byte, and what stands behind it begins there
module _ (t : List ℕ) (b : ℕ) where
  pub part-short : length (part_before t (first_from (is b) t 0)) ≤ length t
  part-short = short (first_from (is b) t 0)
    where
      short : (x : Option ℕ) → length (part_before t x) ≤ length t
      short (Some p) = omega (arith, length-take p t)
      short None = omega arith

  pub wanted_is : wanted_by t (first_from (is b) t 0)
      ≡ cond (ltb (length (part_before t (first_from (is b) t 0))) (length t)) (Some (drop (length (part_before t (first_from (is b) t 0)) + 1) t)) None
  wanted_is = go (first_from (is b) t 0) refl
    where
      go : (x : Option ℕ) → first_from (is b) t 0 ≡ x
          → wanted_by t x ≡ cond (ltb (length (part_before t x)) (length t)) (Some (drop (length (part_before t x) + 1) t)) None
      go (Some p) f =
          let w = (first_within f).within in
          rw (length-take-le p t (omega (arith, w)), lt-ltb p (length t) (omega (arith, w)))
      go None f = rw (le-ltb (length t) (length t) (omega arith))

  pub demangled_is : (raw : List ℕ) → demangled_by t raw (first_from (is b) t 0)
      ≡ cond (ltb (length (part_before t (first_from (is b) t 0))) (length t)) (drop (length (part_before t (first_from (is b) t 0)) + 1) t) raw
  demangled_is raw = go (first_from (is b) t 0) refl
    where
      go : (x : Option ℕ) → first_from (is b) t 0 ≡ x
          → demangled_by t raw x ≡ cond (ltb (length (part_before t x)) (length t)) (drop (length (part_before t x) + 1) t) raw
      go (Some p) f =
          let w = (first_within f).within in
          rw (length-take-le p t (omega (arith, w)), lt-ltb p (length t) (omega (arith, w)))
      go None f = rw (le-ltb (length t) (length t) (omega arith))
