-- A bracket of a token, read as it stands and with each `[^` as `[!`, of characters: both close at the same place, and behind it the same has become of the
-- rest. Where the changed bracket has the mark `!`, the token has `!` or `^`.
-- Assumes nothing.
use Prim.Native.Nat.{ℕ, suc, ◌+◌, ◌<◌}
use mathlib.Core.Path.{◌≡◌, refl, sym, ap, ◌∙◌}
use mathlib.Core.List.{List, [], ◌∷◌}
use mathlib.Core.Bool.{Bool, true, false, cond}
use native.Mathlib.Decide.{ℕ_discrete, dec_lt}
use native.Mathlib.Nat.{add_assoc}
use native.Mathlib.Numerals.{add-one}
use native.Mathlib.Omega.{arith}
use borrow.Author.Tests.{lt-ltb, le-ltb, eq-eqb, ne_eqb}
use lib.ListN.{length, drop, length-drop}
use lib.Seq.{drop-drop}
use lib.Dec.{eqb, ltb}
use Rattle.lists.specs.Pieces.{Piece}
use Rattle.numbers.specs.declared.Edition.{Edition}
use Rattle.pattern.specs.Patterns.{inside, between, Element, bracketed, opened}
use Rattle.pattern.specs.Storing.{stored_byte, negated_from}
use Rattle.pattern.specs.Post.{mark_as}
use Rattle.pattern.proofs.Stored.{length-negated, sign-stored}
use Rattle.pattern_check.specs.Post.{chars_as}

-- what follows the mark of a bracket, of what follows its `[`
abbrev pub behind_mark : Bool → List ℕ → List ℕ
behind_mark token s = drop (mark_as token s) s

-- whether a bracket is closed, and what follows its `]`, of what follows its mark
abbrev pub closed : Edition → List ℕ → Bool
closed e s = ltb (length (between e s)) (length s)

abbrev pub behind : Edition → List ℕ → List ℕ
behind e s = drop (length (between e s) + 1) s

-- ---- a bracket in these words
ltb-past : (m x : ℕ) (s : List ℕ) → ltb (m + x) (length s) ≡ ltb x (length (drop m s))
ltb-past m x s = go (dec_lt (m + x) (length s))
  where
    go : Dec (m + x < length s) → ltb (m + x) (length s) ≡ ltb x (length (drop m s))
    go (yes h) = lt-ltb (m + x) (length s) h ∙ sym (lt-ltb x (length (drop m s)) (rw length-drop (omega arith)))
    go (no n) = le-ltb (m + x) (length s) (omega arith) ∙ sym (le-ltb x (length (drop m s)) (rw length-drop (omega arith)))

-- what holds of each bracket, whatever its mark, holds of the one that is opened
pub opened_by : (e : Edition) (s : List ℕ) (P : Piece Element → List ℕ → Type 0)
    → ((n : Bool) (m : ℕ) → P (bracketed e n m (between e (drop m s)) s) (drop m s)) → P (opened e s) (behind_mark false s)
unfolding opened between
opened_by e [] P f = f false 0
opened_by e (c ∷ s) P f = go (ℕ_discrete c 33)
  where
    go : Dec (c ≡ 33) → P (opened e (c ∷ s)) (behind_mark false (c ∷ s))
    go (yes h) = rw (eq-eqb c 33 h) (f true 1)
    go (no n) = rw (ne_eqb c 33 n) (f false 0)

module _ (e : Edition) (s : List ℕ) where
  opened_good : (opened e s).good ≡ closed e (behind_mark false s)
  unfolding bracketed
  opened_good = opened_by e s (λ (p : Piece Element) (t : List ℕ). p.good ≡ closed e t) (λ n m. ltb-past m (length (between e (drop m s))) s)

  opened_behind : drop (opened e s).more s ≡ behind e (behind_mark false s)
  unfolding bracketed
  opened_behind = opened_by e s (λ (p : Piece Element) (t : List ℕ). drop p.more s ≡ behind e t) (λ n m. rw (drop-drop, add_assoc))

-- ---- the mark. Only where there is none does the bracket's `[` stand just before what follows
unmarked : Bool → List ℕ → Bool
unmarked token s = eqb (mark_as token s) 0

mark-stored : (token : Bool) (s : List ℕ) → behind_mark false (chars_as token true s) ≡ chars_as token (unmarked token s) (behind_mark token s)
unfolding negated_from stored_byte unmarked
mark-stored false s = refl
mark-stored true [] = refl
mark-stored true (c ∷ s) = go (ℕ_discrete c 94) (ℕ_discrete c 33)
  where
    go : Dec (c ≡ 94) → Dec (c ≡ 33)
        → behind_mark false (negated_from true (c ∷ s)) ≡ negated_from (unmarked true (c ∷ s)) (behind_mark true (c ∷ s))
    go (yes h) k = rw h
    go (no n) (yes h) = rw h
    go (no n) (no k) = simp (ne_eqb c 94 n, ne_eqb c 33 k)

mark_same : (s : List ℕ) → mark_as false (negated_from true s) ≡ mark_as true s
unfolding negated_from stored_byte
mark_same [] = refl
mark_same (c ∷ s) = go (ℕ_discrete c 94) (ℕ_discrete c 33)
  where
    go : Dec (c ≡ 94) → Dec (c ≡ 33) → mark_as false (negated_from true (c ∷ s)) ≡ mark_as true (c ∷ s)
    go (yes h) k = rw h
    go (no n) (yes h) = rw h
    go (no n) (no k) = simp (ne_eqb c 94 n, ne_eqb c 33 k)

-- ---- what stands between is as long, and behind the `]` no `[` stands just before
inside-stored : (b : Bool) (s : List ℕ) → length (inside (negated_from b s)) ≡ length (inside s)
unfolding negated_from inside
inside-stored b [] = refl
inside-stored b (c ∷ s) = rw (sign-stored 93 refl refl b c) (go (eqb c 93) (inside-stored (eqb c 91) s))
  where
    go : (t : Bool) → length (inside (negated_from (eqb c 91) s)) ≡ length (inside s)
        → length (cond t [] (stored_byte b c ∷ inside (negated_from (eqb c 91) s))) ≡ length (cond t [] (c ∷ inside s))
    go true k = refl
    go false k = ap suc k

past-stored : (b : Bool) (s : List ℕ) → drop (suc (length (inside s))) (negated_from b s) ≡ negated_from false (drop (suc (length (inside s))) s)
unfolding negated_from inside
past-stored b [] = refl
past-stored b (c ∷ s) = go (ℕ_discrete c 93) (past-stored (eqb c 91) s)
  where
    go : Dec (c ≡ 93) → drop (suc (length (inside s))) (negated_from (eqb c 91) s) ≡ negated_from false (drop (suc (length (inside s))) s)
        → drop (length (inside (c ∷ s))) (negated_from (eqb c 91) s) ≡ negated_from false (drop (length (inside (c ∷ s))) s)
    go (yes h) k = rw h
    go (no n) k = rw (ne_eqb c 93 n) k

module _ (e : Edition) where
  between-stored : (b : Bool) (s : List ℕ) → length (between e (negated_from b s)) ≡ length (between e s)
  unfolding negated_from between
  between-stored b [] = refl
  between-stored b (c ∷ s) = ap suc (inside-stored (eqb c 91) s)

  closed-stored : (token b : Bool) (s : List ℕ) → closed e (chars_as token b s) ≡ closed e s
  closed-stored false b s = refl
  closed-stored true b s = rw (between-stored, length-negated)

  past-between : (b : Bool) (s : List ℕ) → drop (length (between e s) + 1) (negated_from b s) ≡ negated_from false (behind e s)
  unfolding negated_from between
  past-between b [] = refl
  past-between b (c ∷ s) = rw add-one (past-stored (eqb c 91) s)

  behind_stored : (token b : Bool) (s : List ℕ) → behind e (chars_as token b s) ≡ chars_as token false (behind e s)
  behind_stored false b s = refl
  behind_stored true b s = rw between-stored (past-between b s)

-- ---- so the stored bracket is closed where the token's is, and what follows it is what is stored of what follows there
module _ (e : Edition) (token : Bool) (s : List ℕ) where
  pub token_good : (opened e (chars_as token true s)).good ≡ closed e (behind_mark token s)
  token_good = opened_good e (chars_as token true s) ∙ rw (mark-stored, closed-stored)

  pub token_behind : drop (opened e (chars_as token true s)).more (chars_as token true s) ≡ chars_as token false (behind e (behind_mark token s))
  token_behind = opened_behind e (chars_as token true s) ∙ rw (mark-stored, behind_stored)

-- a stored bracket has as many bytes, or characters, as the token's
module _ (e : Edition) where
  opened_more : (s : List ℕ) → (opened e s).more ≡ mark_as false s + length (between e (behind_mark false s)) + 1
  unfolding opened bracketed between
  opened_more [] = refl
  opened_more (c ∷ s) = go (ℕ_discrete c 33)
    where
      go : Dec (c ≡ 33) → (opened e (c ∷ s)).more ≡ mark_as false (c ∷ s) + length (between e (behind_mark false (c ∷ s))) + 1
      go (yes h) = rw (eq-eqb c 33 h)
      go (no n) = rw (ne_eqb c 33 n)

  pub token_more : (s : List ℕ) → (opened e (negated_from true s)).more ≡ mark_as true s + length (between e (behind_mark true s)) + 1
  token_more s = opened_more (negated_from true s) ∙ rw (mark-stored true s, between-stored e (unmarked true s) (behind_mark true s), mark_same s)
