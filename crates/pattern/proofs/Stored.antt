-- What is stored of a glob (`stored` of specs/Storing.antt): it matches what the token with each `[^` as `[!` matches, it has no run of stars, storing it
-- again changes nothing, and where storing changes nothing. Assumes nothing.
use Prim.Native.Nat.{ℕ, suc}
use mathlib.Core.Path.{◌≡◌, refl, sym, ap, ap₂, ◌∙◌}
use mathlib.Core.List.{List, [], ◌∷◌}
use mathlib.Core.Bool.{Bool, true, false, not, ◌&&◌, false≢true}
use native.Mathlib.Decide.{ℕ_discrete}
use borrow.Author.Tests.{ne_eqb}
use lib.Dec.{eqb}
use lib.ListN.{length}
use Rattle.lists.specs.Same.{same}
use Rattle.lists.proofs.SameLaws.{same_equal, same_refl}
use Rattle.lists.proofs.Tests.{fails}
use Rattle.utf8.specs.Utf8.{chars, encoding, utf8}
use Rattle.utf8.proofs.Rfc3629.{chars-encoding}
use Rattle.numbers.specs.Signs.{bang, caret}
use Rattle.numbers.specs.declared.Edition.{Edition}
use Rattle.pattern.specs.Patterns.{elements, matches}
use Rattle.pattern.specs.Runs.{has_run, runless, squeezed}
use Rattle.pattern.specs.Storing.{stored_byte, negated_from, negated, stored}
use Rattle.pattern.proofs.Runs.{chars-squeezed, elements-squeezed, matches-squeezed, negated-squeezed}
use Rattle.pattern.proofs.Runs.{runless-apart, squeezed-again, squeezed-stays, utf8-squeezed}

-- ---- a sign that is neither `^` nor `!` stands where it stood
pub sign-stored : (k : ℕ) → eqb caret k ≡ false → eqb bang k ≡ false → (b : Bool) (c : ℕ) → eqb (stored_byte b c) k ≡ eqb c k
unfolding stored_byte
sign-stored k h z false c = refl
sign-stored k h z true c = go (ℕ_discrete c caret)
  where
    go : Dec (c ≡ caret) → eqb (stored_byte true c) k ≡ eqb c k
    go (yes q) = rw (q, h, z)
    go (no n) = rw (ne_eqb c caret n)

-- ---- each `[^` as `[!`
pub length-negated : (b : Bool) (s : List ℕ) → length (negated_from b s) ≡ length s
unfolding negated_from
length-negated b [] = refl
length-negated b (c ∷ s) = ap suc (length-negated (eqb c 91) s)

byte_twice : (b : Bool) (c : ℕ) → stored_byte b (stored_byte b c) ≡ stored_byte b c
unfolding stored_byte
byte_twice false c = refl
byte_twice true c = go (ℕ_discrete c 94)
  where
    go : Dec (c ≡ 94) → stored_byte true (stored_byte true c) ≡ stored_byte true c
    go (yes h) = rw h
    go (no n) = rw (ne_eqb c 94 n, ne_eqb c 94 n)

negated-twice : (b : Bool) (s : List ℕ) → negated_from b (negated_from b s) ≡ negated_from b s
unfolding negated_from
negated-twice b [] = refl
negated-twice b (c ∷ s) = rw (sign-stored 91 refl refl b c) (ap₂ (λ (x : ℕ) (l : List ℕ). x ∷ l) (byte_twice b c) (negated-twice (eqb c 91) s))

module _ (e : Edition) (t : List ℕ) where
  -- the elements are those of the token without the stars behind a star
  pub elements-stored : elements e (stored e t) ≡ runless false (elements e (negated e t))
  unfolding stored
  elements-stored = elements-squeezed e (negated e t)

  -- so that a run means what one star means
  pub matches-stored : (n : List ℕ) → matches (elements e (stored e t)) n ≡ matches (elements e (negated e t)) n
  unfolding stored
  matches-stored n = matches-squeezed e (negated e t) n

  -- what is stored has no run
  pub stored-apart : has_run false (elements e (stored e t)) ≡ false
  stored-apart = rw elements-stored (runless-apart false (elements e (negated e t)))

  -- it is squeezed
  pub stored-squeezed : squeezed e (stored e t) ≡ stored e t
  unfolding stored
  stored-squeezed = squeezed-again e (negated e t)

  negated-stored : negated e (stored e t) ≡ stored e t
  unfolding stored negated
  negated-stored = negated-squeezed e (negated_from false t) (negated-twice false t)

  -- and storing it again changes nothing
  pub stored-twice : stored e (stored e t) ≡ stored e t
  unfolding stored
  stored-twice = ap (squeezed e) negated-stored ∙ stored-squeezed

-- ---- so a glob of UTF-8 is as it is stored exactly where it has no `[^`, and outside brackets no run of stars
module _ (e : Edition) (s : List ℕ) where
  -- bytes that have no run, and whose characters are one way only, stay
  stays : utf8 s ≡ true → negated e s ≡ s → has_run false (elements e s) ≡ false → stored e s ≡ s
  unfolding stored elements
  stays u n h =
      let k : chars (squeezed e s) ≡ chars s = chars-squeezed e s ∙ squeezed-stays e (chars s) h in
      rw n (sym (chars-encoding (squeezed e s) (utf8-squeezed e s ∙ u)) ∙ ap encoding k ∙ chars-encoding s u)

  pub stored_exactly : utf8 s ≡ true → same (stored e s) s ≡ (same (negated e s) s && not (has_run false (elements e s)))
  stored_exactly u = go (same (negated e s) s) refl (has_run false (elements e s)) refl
    where
      go : (a : Bool) → same (negated e s) s ≡ a → (b : Bool) → has_run false (elements e s) ≡ b → same (stored e s) s ≡ (a && not b)
      go true p false q = rw (stays u (same_equal (negated e s) s p) q) (same_refl s)
      go true p true q = fails (λ h.
          let k = same_equal (stored e s) s h in
          false≢true (sym (rw k at (stored-apart e s)) ∙ q))
      go false p b q = fails (λ h.
          let k = same_equal (stored e s) s h in
          let n : negated e s ≡ s = rw k at (negated-stored e s) in
          false≢true (sym p ∙ rw n (same_refl s)))
