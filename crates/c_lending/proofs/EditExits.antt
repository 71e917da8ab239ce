-- The exits of the edits. l is the counts that were lent and b the buffers; l' and b' are what is left of them. c is the counts that the library
-- was given, a what it answered, and r what is told of that. The premises are what the code learned. Assumes nothing.
use Prim.Native.Nat.{ℕ}
use mathlib.Core.Path.{◌≡◌, refl, ap, ◌∙◌}
use mathlib.Core.List.{List}
use mathlib.Core.Bool.{Bool, true, false}
use Rattle.std.specs.Prelude.{Option, None, Result, Ok}
use Rattle.numbers.specs.Refusals.{no_book}
use Rattle.book.specs.declared.Counts.{Counts}
use Rattle.book.specs.Books.{Book}
use Rattle.book.specs.Layout.{Buffers}
use Rattle.book.specs.View.{view}
use Rattle.trial.specs.Changes.{Answers, Change, after, edit_refusal, edited, no, to}
use Rattle.trial.specs.Symbols.{symbol_asked}
use Rattle.trial.specs.Trial.{add_asked, settle_asked, strike_asked, undo_asked}
use Rattle.c_lending.specs.Calls.{Edits, Finishes, counts_edited, counts_put, counts_told, lent, lent_counts, six}
use Rattle.c_lending.proofs.Lending.{lent-viewed}

-- ---- an edit that is done: its counts are written
pub counts-written : (l l' : List ℕ) (a : Result Counts ℕ) (d : Counts) → a ≡ Ok d → l' ≡ counts_put l d → Finishes l a 0 l'
counts-written l l' a d e x = rw e (refl, x)

module _ (l : List ℕ) (b : Buffers) (c : Counts) (e : c ≡ lent_counts l) (a : Result Counts ℕ) (r : ℕ) (l' : List ℕ) (b' : Buffers) where
  -- the counts of a change of what is lent: without six numbers there is no book, and no change
  counted : (ask : Buffers → Option Book → Change) → ask b None ≡ no no_book → l' ≡ counts_told l (edited (ask b (lent l b)))
      → l' ≡ counts_edited l (ask b (lent l b))
  unfolding edited counts_edited lent
  counted ask none-asked k = go (six l) refl
    where
      written : six l ≡ true → (x : Change) → l' ≡ counts_told l (edited x) → l' ≡ counts_edited l x
      written h (to w) k = rw h at k
      written h (no n) k = k

      go : (t : Bool) → six l ≡ t → l' ≡ counts_edited l (ask b (lent l b))
      go true h = written h (ask b (lent l b)) k
      go false h =
          let q : lent l b ≡ None = rw h in
          rw (q, none-asked) (rw (q, none-asked) at k)

  told : (ask : Buffers → Option Book → Change) → ask b None ≡ no no_book → Answers c b ask a b' → Finishes l a r l' → Edits l b ask r l' b'
  unfolding Edits
  told ask none-asked y z =
      let q : view c b ≡ lent l b = lent-viewed l b c e in
      let x : a ≡ edited (ask b (lent l b)) = y.0 ∙ ap (λ w. edited (ask b w)) q in
      (z.0 ∙ ap edit_refusal x, counted ask none-asked (z.1 ∙ ap (counts_told l) x), y.1 ∙ ap (λ w. after b (ask b w)) q)

  -- of each edit
  abbrev Tells : (Buffers → Option Book → Change) → Type 0
  Tells ask = Answers c b ask a b' → Finishes l a r l' → Edits l b ask r l' b'

  pub add-told : (node section language : ℕ) (t : List ℕ) → Tells (λ b w. add_asked b w node section language t)
  unfolding add_asked
  add-told node section language t = told (λ b w. add_asked b w node section language t) refl

  pub strike-told : (i : ℕ) → Tells (λ b w. strike_asked b w i)
  unfolding strike_asked
  strike-told i = told (λ b w. strike_asked b w i) refl

  pub undo-told : Tells (λ b w. undo_asked w)
  unfolding undo_asked
  undo-told = told (λ b w. undo_asked w) refl

  pub settle-told : Tells (λ b w. settle_asked w)
  unfolding settle_asked
  settle-told = told (λ b w. settle_asked w) refl

  pub symbol-told : (s : List ℕ) (bare : Bool) → Tells (λ b w. symbol_asked b w s bare)
  unfolding symbol_asked
  symbol-told s bare = told (λ b w. symbol_asked b w s bare) refl
