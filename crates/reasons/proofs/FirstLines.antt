-- The first line that passes a test (`first_line` of ranking), exactly; and the line that decides in a book of the Rust kind (specs/Named.antt). Assumes
-- nothing.
use Prim.Native.Nat.{ℕ, ◌+◌, ◌<◌}
use mathlib.Core.Path.{◌≡◌, refl, sym, ap, subst, ◌∙◌}
use mathlib.Core.List.{List}
use mathlib.Core.Bool.{Bool, true, false, false≢true}
use mathlib.Core.Logic.{◌↔◌, ◌⊎◌, inl, inr}
use Rattle.std.specs.Prelude.{Option, Some, None}
use native.Mathlib.Decide.{dec_lt}
use native.Mathlib.Omega.{arith}
use lib.ListN.{length}
use Rattle.book.specs.Books.{Line, Book}
use Rattle.book.specs.Edits.{line_at}
use Rattle.book.specs.Sanity.{bare_star}
use Rattle.ranking.specs.Walk.{first_line, or_else}
use Rattle.ranking.proofs.Deciders.{First, Looked, found, missing, looked}
use Rattle.reasons.specs.Named.{FirstListed, FirstStar}
use Rattle.lookups.specs.Lookups.{listed_as}
use Rattle.reasons.specs.Why.{rust_deciding}

module _ (t : Line → Bool) (ls : List Line) where
  abbrev pub NonePasses : Type 0
  NonePasses = (j : ℕ) → j < length ls → t (line_at ls j) ≡ false

  clash : {A : Type 0} (j : ℕ) → t (line_at ls j) ≡ true → t (line_at ls j) ≡ false → A
  clash j f g = absurd (false≢true (sym g ∙ f))

  -- there is one at most
  first_once : (i j : ℕ) → First t ls i → First t ls j → i ≡ j
  first_once i j f g = go (dec_lt i j) (dec_lt j i)
    where
      go : Dec (i < j) → Dec (j < i) → i ≡ j
      go (yes h) k = clash i f.passes (g.before i h)
      go (no h) (yes k) = clash j g.passes (f.before j k)
      go (no h) (no k) = omega arith

  is_first : (o : Option ℕ) → Looked t ls 0 o → (i : ℕ) → o ≡ Some i → First t ls i
  is_first o (found j f) i e =
      let q : 0 + j ≡ i = cc in
      let k : j ≡ i = omega arith in
      subst (First t ls) k f
  is_first o (missing f) i e = let z : ◌≡◌ {A = ℕ} 0 1 = cc in absurd (omega arith)

  first_is : (o : Option ℕ) → Looked t ls 0 o → (i : ℕ) → First t ls i → o ≡ Some i
  first_is o (found j f) i g =
      let q : j ≡ i = first_once j i f g in
      let k : 0 + j ≡ i = omega arith in
      ap Some k
  first_is o (missing f) i g = clash i g.passes (f i g.there)

  is_none : (o : Option ℕ) → Looked t ls 0 o → o ≡ None → NonePasses
  is_none o (found j f) e = let z : ◌≡◌ {A = ℕ} 0 1 = cc in absurd (omega arith)
  is_none o (missing f) e = f

  none_is : (o : Option ℕ) → Looked t ls 0 o → NonePasses → o ≡ None
  none_is o (found j f) g = clash j f.passes (g j f.there)
  none_is o (missing f) g = refl

  pub first_exactly : (i : ℕ) → (first_line t 0 ls ≡ Some i) ↔ First t ls i
  first_exactly i = (is_first _ (looked t 0 ls) i, first_is _ (looked t 0 ls) i)

  pub first_nothing : (first_line t 0 ls ≡ None) ↔ NonePasses
  first_nothing = (is_none _ (looked t 0 ls), none_is _ (looked t 0 ls))

-- ---- the Rust kind: "the first listed line equal to the name, else the first general local All line"
module _ (w : Book) (t : List ℕ) where
  abbrev named : ℕ → Type 0
  named i = FirstListed w t i ⊎ FirstStar w t i

  rust-names : (o : Option ℕ) → first_line (listed_as t) 0 w.lines ≡ o → (i : ℕ) → or_else o (first_line bare_star 0 w.lines) ≡ Some i → named i
  rust-names (Some j) e i f =
      let g = (first_exactly (listed_as t) w.lines i).0 (e ∙ f) in
      inl (record { there = g.there; equal = g.passes; first = g.before })
  rust-names None e i f =
      let g = (first_exactly bare_star w.lines i).0 f in
      inr (record { unlisted = (first_nothing (listed_as t) w.lines).0 e; there = g.there; star = g.passes; first = g.before })

  rust-named : (i : ℕ) → named i → rust_deciding t w.lines ≡ Some i
  unfolding rust_deciding
  rust-named i (inl f) = rw ((first_exactly (listed_as t) w.lines i).1 (record { there = f.there; passes = f.equal; before = f.first }))
  rust-named i (inr f) =
      rw ((first_nothing (listed_as t) w.lines).1 f.unlisted)
      ((first_exactly bare_star w.lines i).1 (record { there = f.there; passes = f.star; before = f.first }))

  pub rust_exactly : (i : ℕ) → (rust_deciding t w.lines ≡ Some i) ↔ named i
  unfolding rust_deciding
  rust_exactly i = (rust-names _ refl i, rust-named i)
