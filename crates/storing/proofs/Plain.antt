-- A token with no `**` and no `[^` is kept as it stands, in each edition and wherever its brackets are; and `is_plain`, which looks for them.
-- Assumes nothing.
use Prim.Native.Nat.{ℕ, zero, suc, ◌+◌, ◌<◌, ◌≤◌}
use mathlib.Core.Path.{◌≡◌, refl, sym, ap, ap₂, ◌∙◌}
use mathlib.Core.List.{List, [], ◌∷◌}
use mathlib.Core.Bool.{Bool, true, false, not, cond, ◌&&◌, and-false, false≢true}
use native.Mathlib.Decide.{ℕ_discrete}
use borrow.Author.Tests.{eq-eqb, eqb-true, ne_eqb, not-true}
use lib.Dec.{eqb}
use lib.ListN.{length, get_or, drop, drop_of_length-le}
use Rattle.lists.specs.Front.{front}
use Rattle.lists.specs.Same.{same}
use Rattle.lists.proofs.SameLaws.{same_refl}
use Rattle.lists.proofs.Tests.{both}
use Rattle.numbers.specs.declared.Edition.{Edition}
use Rattle.pattern.specs.Patterns.{element}
use Rattle.pattern.specs.Storing.{stored_byte, negated_from, negated, stored}
use Rattle.pattern.specs.Runs.{squeezed, squeezed_past}
use Rattle.storing.specs.Post.{pair, plain, plain_from}
use Rattle.storing.proofs.Keeping.{byte_here}

-- ---- `is_plain`: what is left from i on decides, behind the byte p
pub record Plain (t : List ℕ) (p i : ℕ) : Type 0 where
  pub rest : plain t ≡ plain_from p (drop i t)

pub plain_none : (t : List ℕ) → Plain t 0 0
plain_none t = record { rest = refl }

module _ {t : List ℕ} {p i : ℕ} (z : Plain t p i) where
  pub plain_all : length t ≤ i → true ≡ plain t
  unfolding plain_from
  plain_all h = sym (z.rest ∙ rw (drop_of_length-le t h))

  module _ (h : i < length t) (r : Bool) (q : r ≡ pair p (get_or t i 0)) where
    paired : plain t ≡ (not r && plain_from (get_or t i 0) (drop (i + 1) t))
    unfolding plain_from
    paired = z.rest ∙ rw (q, byte_here t i h)

    pub plain_stops : r ≡ true → false ≡ plain t
    plain_stops k = sym (paired ∙ rw k)

    pub plain_more : r ≡ false → Plain t (get_or t i 0) (i + 1)
    plain_more k = record { rest = paired ∙ rw k }

-- ---- such a token is kept as it stands
plain_here : (p c : ℕ) (s : List ℕ) → plain_from p (c ∷ s) ≡ true → (pair p c ≡ false) × (plain_from c s ≡ true)
unfolding plain_from
plain_here p c s h = let k = both (not (pair p c)) (plain_from c s) h in (not-true (pair p c) k.0, k.1)

plain-negated : (p : ℕ) (s : List ℕ) → plain_from p s ≡ true → negated_from (eqb p 91) s ≡ s
unfolding negated_from stored_byte pair
plain-negated p [] h = refl
plain-negated p (c ∷ s) h = let k = plain_here p c s h in ap₂ (λ (x : ℕ) (l : List ℕ). x ∷ l) (go (ℕ_discrete c 94) k.0) (plain-negated c s k.1)
  where
    go : Dec (c ≡ 94) → pair p c ≡ false → stored_byte (eqb p 91) c ≡ c
    go (yes q) k = let n : eqb p 91 ≡ false = rw q at k in rw n
    go (no n) k = rw (ne_eqb c 94 n, and-false (eqb p 91))

module _ (e : Edition) where
  plain-squeezed : (p k : ℕ) (b : Bool) (s : List ℕ) → plain_from p s ≡ true → (b ≡ true → p ≡ 42) → squeezed_past e k b s ≡ s
  unfolding squeezed_past pair
  plain-squeezed p zero b [] h q = refl
  plain-squeezed p (suc k) b [] h q = refl
  plain-squeezed p (suc k) b (c ∷ s) h q = ap (◌∷◌ c) (plain-squeezed c k false s (plain_here p c s h).1 (λ x. absurd (false≢true x)))
  plain-squeezed p zero b (c ∷ s) h q =
      let k = plain_here p c s h in
      go (eqb c 42) refl b q k.0 (plain-squeezed c 0 true s k.1) (plain-squeezed c (element e c s).more false s k.1 (λ x. absurd (false≢true x)))
    where
      go : (t : Bool) → eqb c 42 ≡ t → (b : Bool) → (b ≡ true → p ≡ 42) → pair p c ≡ false
          → ((true ≡ true → c ≡ 42) → squeezed_past e 0 true s ≡ s) → squeezed_past e (element e c s).more false s ≡ s
          → cond t (cond b (squeezed_past e 0 true s) (c ∷ squeezed_past e 0 true s)) (c ∷ squeezed_past e (element e c s).more false s) ≡ c ∷ s
      go true n true q k l m = absurd (false≢true (sym k ∙ rw (n, eq-eqb p 42 (q refl))))
      go true n false q k l m = ap (◌∷◌ c) (l (λ x. eqb-true c 42 n))
      go false n b q k l m = ap (◌∷◌ c) m

  plain-stored : (t : List ℕ) → plain t ≡ true → stored e t ≡ t
  unfolding stored negated squeezed
  plain-stored t h = rw (plain-negated 0 t h) (plain-squeezed 0 0 false t h (λ x. absurd (false≢true x)))

  -- where `is_plain` answers so
  module _ (t : List ℕ) (r : Bool) (q : r ≡ plain t) (h : r ≡ true) where
    whole : stored e t ≡ t
    whole = plain-stored t (sym q ∙ h)

    pub plain-unchanged : true ≡ same (stored e t) t
    plain-unchanged = rw whole (sym (same_refl t))

    pub plain-count : length t ≡ length (stored e t)
    plain-count = rw whole

    pub plain_fits : (n : ℕ) → length (stored e t) ≤ n → length t ≤ n
    plain_fits n k = rw whole at k

    pub plain_copied : (d d' : List ℕ) → d' ≡ front t d → d' ≡ front (stored e t) d
    plain_copied d d' k = rw whole k
