-- Words, names and tokens lie in the text, and a token has at least one byte. Assumes nothing.
use Prim.Native.Nat.{ℕ, suc, ◌+◌, ◌<◌, ◌≤◌}
use mathlib.Core.Path.{◌≡◌, refl, sym}
use mathlib.Core.List.{List, [], ◌∷◌}
use mathlib.Core.Bool.{Bool, true, false, cond, ◌&&◌, ◌||◌, true≢false}
use native.Mathlib.Omega.{arith}
use borrow.Author.Tests.{eqb-true, ltb-true}
use lib.Dec.{eqb, ltb}
use lib.ListN.{length, get_or, drop, length-drop}
use Rattle.numbers.specs.declared.Edition.{Edition}
use Rattle.numbers.specs.declared.Refusal.{Refusal}
use Rattle.numbers.specs.declared.Refusal.TheVariants as no
use Rattle.numbers.specs.Refusals.{unclosed, unreadable, bad_extern}
use Rattle.numbers.specs.Saying.{number}
use Rattle.numbers.specs.Signs.{closing_brace, semicolon}
use Rattle.std.specs.Prelude.{Option, Some, None, Ok, Err}
use Rattle.linker_script.specs.Finding.{Test, closes, first_from, found_any, is}
use Rattle.linker_script.proofs.Searches.{byte_within, first_within}
use Rattle.reading_tokens.specs.Tokens.{TokenEnd, begins, stands_at, named, longer, name_in, name_end, end_at, to_semicolon, to_brace, brace_next, to_either, bare_extern_end, bare_end, bare_skip}
use Rattle.reading_matchers.specs.Matchers.{past_semicolon}

-- ---- bytes and words
-- a byte that is no 0
pub byte_stands : (s : List ℕ) (p b : ℕ) → 0 < b → eqb (get_or s p 0) b ≡ true → p < length s
byte_stands s p b h e = byte_within s p (omega (arith, eqb-true (get_or s p 0) b e))

begins-within : (w l : List ℕ) → begins w l ≡ true → length w ≤ length l
unfolding begins
begins-within [] l e = omega arith
begins-within (x ∷ w) [] e = absurd (true≢false (sym e))
begins-within (x ∷ w) (b ∷ l) e = go (eqb b x) e (begins-within w l)
  where
    go : (t : Bool) → t && begins w l ≡ true → (begins w l ≡ true → length w ≤ length l) → suc (length w) ≤ suc (length l)
    go true h more = omega (arith, more h)
    go false h more = absurd (true≢false (sym h))

pub word_stands : (w s : List ℕ) (p : ℕ) → 0 < length w → stands_at w s p ≡ true → p + length w ≤ length s
word_stands w s p h e = omega (arith, begins-within w (drop p s) e, length-drop p s)

-- ---- names
name-few : (p : ℕ) (l : List ℕ) → name_in p l ≤ p + length l
unfolding name_in
name-few p [] = omega arith
name-few p (b ∷ l) = go (named b) (name-few (p + 1) l)
  where
    go : (t : Bool) → name_in (p + 1) l ≤ p + 1 + length l → longer t p (name_in (p + 1) l) ≤ p + suc (length l)
    go true h = omega arith
    go false h = omega arith

pub name-within : (s : List ℕ) (p : ℕ) → p < name_end s p → name_end s p ≤ length s
name-within s p h = omega (arith, name-few p (drop p s), length-drop p s)

-- ---- tokens
-- "take a `;` if there"
pub record Past (s : List ℕ) (p q : ℕ) : Type 0 where
  pub onward : p ≤ q
  pub within : p ≤ length s → q ≤ length s

pub past_semicolon-within : (s : List ℕ) (p : ℕ) → Past s p (past_semicolon s p)
past_semicolon-within s p = go (eqb (get_or s p 0) semicolon) refl
  where
    go : (t : Bool) → eqb (get_or s p 0) semicolon ≡ t → Past s p (cond t (p + 1) p)
    go true e = record { onward = omega arith; within = λ h. omega (arith, byte_stands s p semicolon (omega arith) e) }
    go false e = record { onward = omega arith; within = λ h. h }

-- the numbers of the grammar: 2, 3 and 4
abbrev pub of_grammar : ℕ → Bool
of_grammar n = eqb n unreadable || (eqb n unclosed || eqb n bad_extern)

-- a token that starts at p: it ends behind p, in the text, or its refusal is one of the grammar's
pub data Ends (s : List ℕ) (p : ℕ) : TokenEnd → Type 0 where
  ends : {q : ℕ} → p < q → q < length s → Ends s p (Ok q)
  refuses : {n : Refusal} → of_grammar (number n) ≡ true → Ends s p (Err n)

ends-cond : {s : List ℕ} {p : ℕ} (t : Bool) {a b : TokenEnd} → Ends s p a → Ends s p b → Ends s p (cond t a b)
ends-cond true x y = x
ends-cond false x y = y

module _ (s : List ℕ) (p : ℕ) where
  ends_found : (t : Test) (n : Refusal) → of_grammar (number n) ≡ true → (f : Option ℕ) → first_from t s p ≡ f → Ends s p (end_at p n f)
  ends_found t n h (Some q) e = go (ltb p q) refl
    where
      go : (v : Bool) → ltb p q ≡ v → Ends s p (cond v (Ok q) (Err no.Unreadable))
      go true l = ends (ltb-true p q l) (first_within e).within
      go false l = refuses refl
  ends_found t n h None e = refuses h

module _ (x : Edition) (s : List ℕ) (p : ℕ) where
  pub semicolon-ends : Ends s p (to_semicolon x s p)
  unfolding to_semicolon
  semicolon-ends = ends_found s p (is semicolon) no.Unreadable refl (first_from (is semicolon) s p) refl

  brace-ends : Ends s p (to_brace x s p)
  unfolding to_brace
  brace-ends = ends_found s p (is closing_brace) no.Unclosed refl (first_from (is closing_brace) s p) refl

  pub either_ends : Ends s p (to_either x s p)
  unfolding to_either
  either_ends = ends-cond (brace_next x s p) brace-ends semicolon-ends

  pub bare-extern-ends : Ends s p (bare_extern_end x s p)
  unfolding bare_extern_end
  bare-extern-ends = ends-cond (found_any (first_from closes s p)) either_ends semicolon-ends

pub bare_skip-within : (x : Edition) (s : List ℕ) → bare_skip x s ≤ length s
unfolding bare_skip
bare_skip-within x s = go (first_from (is closing_brace) s 0) refl
  where
    go : (f : Option ℕ) → first_from (is closing_brace) s 0 ≡ f → bare_skip x s ≤ length s
    go (Some q) e = rw e (omega (arith, (first_within e).within))
    go None e = rw e (omega arith)

pub bare-refuses : (x : Edition) (s : List ℕ) (n : Refusal) → bare_end x s ≡ Err n → of_grammar (number n) ≡ true
unfolding bare_end
bare-refuses x s n e = go (first_from (is closing_brace) s 0) refl
  where
    short : (q : ℕ) (t : Bool) → cond t (Ok q) (Err no.Unreadable) ≡ Err n → of_grammar (number n) ≡ true
    short q true h = absurd (true≢false (cc))
    short q false h = let z : no.Unreadable ≡ n = cc in rw (← z)

    go : (f : Option ℕ) → first_from (is closing_brace) s 0 ≡ f → of_grammar (number n) ≡ true
    go (Some q) k = short q (ltb 0 q) (rw k at e)
    go None k = let z : Ok (length s) ≡ Err n = rw k at e in absurd (true≢false (cc))
