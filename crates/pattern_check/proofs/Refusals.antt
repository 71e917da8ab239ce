-- What the walk over a pattern's characters learns of its brackets, character by character: what is left decides. With the answer for bytes that are not UTF-8
-- that is what is refused of a pattern, or of a token that is still to be stored.
-- Assumes nothing.
use Prim.Native.Nat.{ℕ, ◌-◌, ◌<◌, ◌≤◌}
use mathlib.Core.Path.{◌≡◌, refl, ◌∙◌}
use mathlib.Core.List.{List, [], ◌∷◌}
use mathlib.Core.Bool.{Bool, true, false, not, cond, ◌&&◌}
use native.Mathlib.Omega.{arith}
use borrow.Author.Tests.{ne_eqb, not-true, not-false}
use lib.ListN.{length, drop}
use lib.Dec.{eqb}
use Rattle.lists.specs.Pieces.{sound}
use Rattle.lists.proofs.PiecesLaws.{sound-nil, sound-cons}
use Rattle.utf8.specs.Utf8.{chars, utf8}
use Rattle.utf8.specs.At.{character_at}
use Rattle.utf8.specs.declared.Character.{Character}
use Rattle.utf8.proofs.Walk.{walked, chars_end}
use Rattle.numbers.specs.declared.Edition.{Edition}
use Rattle.std.specs.Prelude.{Option, Some, None, Result, Ok, Err}
use Rattle.numbers.specs.declared.Refusal.{Refusal}
use Rattle.numbers.specs.declared.Refusal.TheVariants as no
use Rattle.pattern.specs.Patterns.{opened, element, refusal}
use Rattle.pattern.proofs.Runs.{element-star, element_other}
use Rattle.pattern.specs.Storing.{stored_byte, negated_from, read_as}
use Rattle.pattern_check.specs.Post.{chars_as, ClosedOk, ClosingOk}
use Rattle.pattern_check.proofs.Stored.{refusal-read}

-- ---- the brackets, character by character
module _ (e : Edition) where
  sound-bracket : (s : List ℕ) → sound (element e) (91 ∷ s) ≡ (opened e s).good && sound (element e) (drop (opened e s).more s)
  unfolding element
  sound-bracket s = sound-cons (element e) 91 s

  sound-one : (c : ℕ) (s : List ℕ) → (c ≡ 91 → ⊥) → sound (element e) (c ∷ s) ≡ sound (element e) s
  sound-one c s n = sound-cons (element e) c s ∙ go (eqb c 42) refl
    where
      go : (t : Bool) → eqb c 42 ≡ t → (element e c s).good && sound (element e) (drop (element e c s).more s) ≡ sound (element e) s
      go true h = rw (element-star e c s h)
      go false h = rw (element_other e c s h (ne_eqb c 91 n))

-- ---- what is stored of the characters from a place on
none_stored : (token : Bool) → chars_as token false [] ≡ []
unfolding negated_from
none_stored true = refl
none_stored false = refl

first_stored : (token : Bool) (c : ℕ) (s : List ℕ) → chars_as token false (c ∷ s) ≡ c ∷ chars_as token (eqb c 91) s
unfolding negated_from stored_byte
first_stored true c s = refl
first_stored false c s = refl

-- ---- the walk
module _ (e : Edition) (p : List ℕ) (token : Bool) where
  abbrev pub closed : Bool
  closed = sound (element e) (chars_as token false (chars p))

  -- whether the brackets are closed that are left at a place is whether all are
  abbrev pub Decides : ℕ → Type 0
  Decides at = closed ≡ sound (element e) (chars_as token false (chars (drop at p)))

  abbrev pub Answers : Result (Unit {0}) Refusal → Type 0
  Answers r = r ≡ cond closed (Ok tt) (Err no.BadPattern)

  pub walk_ends : (at : ℕ) → Decides at → length p ≤ at → Answers (Ok tt)
  walk_ends at d h = rw (d, chars_end p at h, none_stored, sound-nil (element e))

  module _ (at : ℕ) (d : Decides at) (f : Character) (q : f ≡ character_at p at) (h : at < length p) where
    pub walk_less : length p - f.next < length p - at
    walk_less = omega (arith, (walked q h).onward)

    walk_first : closed ≡ sound (element e) (f.number ∷ chars_as token (eqb f.number 91) (chars (drop f.next p)))
    walk_first = d ∙ rw ((walked q h).reads, first_stored)

    pub walk-one : (f.number ≡ 91 → ⊥) → Decides f.next
    walk-one n = walk_first ∙ rw (sound-one, ne_eqb f.number 91 n)

    module _ (n : f.number ≡ 91) (o : Option ℕ) (k : ClosingOk e p f.next token o) where
      pub walk-open : o ≡ None → Answers (Err no.BadPattern)
      walk-open g = let z : closed ≡ false = walk_first ∙ rw (n, sound-bracket, rw g at k) in rw z

      module _ (to : ℕ) (g : o ≡ Some to) where
        closes : ClosedOk e p f.next token to
        closes = rw g at k

        pub walk-bracket : Decides to
        walk-bracket = walk_first ∙ rw (n, sound-bracket, closes.good, closes.behind)

        pub bracket_less : length p - to < length p - at
        bracket_less = omega (arith, (walked q h).onward, closes.onward)

-- ---- 5, or what the walk answers
module _ (e : Edition) (p : List ℕ) (token good : Bool) (r : Result (Unit {0}) Refusal) (k : good ≡ utf8 p) where
  pub refuses-bytes : not good ≡ true → r ≡ Err no.GlobNotUtf8 → r ≡ refusal e (read_as e token p)
  refuses-bytes h q = rw (refusal-read, ← k, not-true good h) q

  pub refuses_shape : not good ≡ false → Answers e p token r → r ≡ refusal e (read_as e token p)
  refuses_shape h q = rw (refusal-read, ← k, not-false good h) q
