-- Whether a word stands at a place, where a name ends, and how long a token is without its blanks. Assumes nothing.
use Prim.Native.Nat.{ℕ, suc, ◌+◌, ◌-◌, ◌<◌, ◌≤◌}
use mathlib.Core.Path.{◌≡◌, refl, sym, ap, ◌∙◌}
use mathlib.Core.List.{List, [], ◌∷◌}
use mathlib.Core.Bool.{Bool, true, false, not, ◌&&◌}
use native.Mathlib.Decide.{dec_le}
use native.Mathlib.Nat.{le_refl}
use native.Mathlib.Omega.{arith}
use borrow.Author.Tests.{eq-eqb, ne_eqb, eqb-true, eqb-false, not-true, not-false}
use lib.Dec.{eqb}
use lib.ListN.{length, get_or, take, drop, length-drop, drop_of_length-le}
use lib.Seq.{length-take-le, take_all, take-nil}
use Rattle.std.specs.List.{starts_with}
use Rattle.std.specs.Prelude.{max, min}
use Rattle.std.proofs.Math.Nat.{max-eq_left, max-eq_right, min-eq_left, min-eq_right}
use Rattle.linker_script.specs.Trim.{trim_end}
use Rattle.linker_script.proofs.Searches.{drop_next}
use Rattle.reading_tokens.specs.Tokens.{begins, stands_at, named, name_in, name_end, trimmed}

-- ---- a word that the text from a place on starts with
same_byte : (x b : ℕ) → eqb x b ≡ eqb b x
same_byte x b = go (eqb b x) refl
  where
    go : (v : Bool) → eqb b x ≡ v → eqb x b ≡ v
    go true e = eq-eqb x b (sym (eqb-true b x e))
    go false e = ne_eqb x b (λ z. eqb-false b x e (sym z))

starts-begins : (w l : List ℕ) → starts_with eqb l w ≡ begins w l
unfolding begins
starts-begins [] l = refl
starts-begins (x ∷ w) [] = refl
starts-begins (x ∷ w) (b ∷ l) = rw (same_byte x b, starts-begins w l)

-- m is the place that is no further than the text's end
pub starts-there : (w s : List ℕ) (at m : ℕ) → m ≡ min at (length s) → starts_with eqb (take (length s - m) (drop m s)) w ≡ stands_at w s at
starts-there w s at m e =
    let a : length (drop m s) ≤ length s - m = rw length-drop (omega arith) in
    rw (take_all (length s - m) (drop m s) a) (starts-begins w (drop m s) ∙ ap (begins w) (go (dec_le at (length s))))
  where
    go : Dec (at ≤ length s) → drop m s ≡ drop at s
    go (yes h) = rw (e, min-eq_left h)
    go (no h) =
        let b : length s ≤ at = omega arith in
        let z : m ≡ length s = e ∙ min-eq_right b in
        rw (z, drop_of_length-le s (le_refl (length s)), drop_of_length-le s b)

-- a word that stands at a place lies within the text
begins-few : (w l : List ℕ) → begins w l ≡ true → length w ≤ length l
unfolding begins
begins-few [] l e = omega arith
begins-few (x ∷ w) [] e = let z : ◌≡◌ {A = ℕ} 0 1 = cc in absurd (omega arith)
begins-few (x ∷ w) (b ∷ l) e = go (eqb b x) e (begins-few w l)
  where
    go : (v : Bool) → v && begins w l ≡ true → (begins w l ≡ true → length w ≤ length l) → suc (length w) ≤ suc (length l)
    go true k ih = omega (arith, ih k)
    go false k ih = let z : ◌≡◌ {A = ℕ} 0 1 = cc in absurd (omega arith)

pub stands-within : (w s : List ℕ) (p : ℕ) → 0 < length w → stands_at w s p ≡ true → p + length w ≤ length s
stands-within w s p h e = omega (arith, begins-few w (drop p s) e, length-drop p s)

-- ---- the loop of `parse_token`: the name from i on decides
module _ (s : List ℕ) (at i : ℕ) (inv : name_end s at ≡ name_end s i) where
  -- m is the place of the text's end, or the one behind it from which the name was asked
  pub name_all : length s ≤ i → (at ≤ length s → i ≤ length s) → (m : ℕ) → m ≡ max at (length s) → m ≡ name_end s at
  unfolding name_in
  name_all h k m e = go (dec_le (length s) at)
    where
      go : Dec (length s ≤ at) → m ≡ name_end s at
      go (yes b) = rw (drop_of_length-le s b) (e ∙ max-eq_left b)
      go (no b) =
          let a : at ≤ length s = omega arith in
          let z : i ≡ length s = omega (arith, k a) in
          e ∙ max-eq_right a ∙ sym (inv ∙ rw (drop_of_length-le s h, z))

  module _ (h : i < length s) (v : Bool) (e : v ≡ named (get_or s i 0)) where
    pub name_stops : not v ≡ true → i ≡ name_end s at
    unfolding name_in
    name_stops k = sym (inv ∙ rw (drop_next s i h, name_in, sym e ∙ not-true v k))

    pub name-goes : not v ≡ false → name_end s at ≡ name_end s (i + 1)
    unfolding name_in
    name-goes k = inv ∙ rw (drop_next s i h, name_in, sym e ∙ not-false v k)

-- ---- a token from p to q without its blanks
-- r bytes of the text t are left
trimmed-long : (t : List ℕ) (r : ℕ) → (r ≤ length t) × (take r t ≡ trim_end t) → r ≡ length (trim_end t)
trimmed-long t r e = sym (length-take-le r t e.0) ∙ ap length e.1

module _ (s : List ℕ) (p q : ℕ) where
  pub trimmed-outside : length s ≤ p → 0 ≡ trimmed s p q
  unfolding trim_end
  trimmed-outside h = rw (drop_of_length-le s h, take-nil)

  pub trimmed-empty : q ≤ p → 0 ≡ trimmed s p q
  unfolding trim_end
  trimmed-empty h =
      let z : q - p ≡ 0 = omega arith in
      rw z

  module _ (r : ℕ) where
    pub trimmed_rest : length s < q → (r ≤ length (take (length s - p) (drop p s))) × (take r (take (length s - p) (drop p s)) ≡ trim_end (take (length s - p) (drop p s))) → r ≡ trimmed s p q
    trimmed_rest h e =
        let a : length (drop p s) ≤ length s - p = rw length-drop (omega arith) in
        let b : length (drop p s) ≤ q - p = rw length-drop (omega arith) in
        trimmed-long (take (length s - p) (drop p s)) r e ∙ rw (take_all (length s - p) (drop p s) a, take_all (q - p) (drop p s) b)

    pub trimmed-part : (r ≤ length (take (q - p) (drop p s))) × (take r (take (q - p) (drop p s)) ≡ trim_end (take (q - p) (drop p s))) → r ≡ trimmed s p q
    trimmed-part e = trimmed-long (take (q - p) (drop p s)) r e
