-- What is left where the latest edit is an add, and where it is none. Assumes nothing.
use Prim.Native.Nat.{ℕ, ◌-◌, ◌*◌}
use mathlib.Core.Path.{◌≡◌, ap, ◌∙◌}
use mathlib.Core.List.{List, [], ◌∷◌}
use borrow.Author.Tests.{eq-eqb, ne_eqb}
use lib.Seq.{paste}
use Rattle.book.specs.declared.Counts.{Counts}
use Rattle.book.specs.Books.{add}
use Rattle.book.specs.Layout.{counts_with, edit_width}
use Rattle.trial.specs.Clearing.{emptied}
use Rattle.trial_undo.specs.Latest.{
  counts_back,
  journal_back,
  line_told,
  lines_back,
  pool_back,
  row_back,
  start_of,
  unstruck,
  what_told,
}

module _ (c d : Counts) (l p j l' p' j' : List ℕ) (ej : j' ≡ paste j (edit_width * (c.edits - 1)) (0 ∷ 0 ∷ []) edit_width) where
  abbrev Back : Type 0
  Back = (d ≡ counts_back c l j) × (l' ≡ lines_back c l j) × (p' ≡ pool_back c l p j) × (j' ≡ journal_back c j)

  pub added_back : (s : ℕ) → what_told c j ≡ add
      → (s ≡ start_of l (line_told c j)) × (l' ≡ row_back l (line_told c j)) × (p' ≡ emptied p s c.pool)
      → d ≡ counts_with c (c.lines - 1) s (c.edits - 1) → Back
  unfolding counts_back lines_back pool_back journal_back
  added_back s h a e =
      let k = eq-eqb _ _ h in (
        rw k (e ∙ ap (λ (x : ℕ). counts_with c (c.lines - 1) x (c.edits - 1)) a.0),
        rw k a.1,
        rw k (a.2 ∙ ap (λ (x : ℕ). emptied p x c.pool) a.0),
        ej,
      )

  pub struck_back : (what_told c j ≡ add → ⊥) → l' ≡ unstruck l (line_told c j) → p' ≡ p → d ≡ counts_with c c.lines c.pool (c.edits - 1) → Back
  unfolding counts_back lines_back pool_back journal_back
  struck_back h el ep e = let k = ne_eqb _ _ h in (rw k e, rw k el, rw k ep, ej)
