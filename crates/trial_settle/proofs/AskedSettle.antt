-- Settle, asked of lent buffers: refused where they hold no book, and settled where they hold one. The Bool that is named x is what was answered to the
-- question whether they do, and the code asked whether it is not. Assumes nothing.
use mathlib.Core.Path.{◌≡◌, refl, sym, ◌∙◌}
use mathlib.Core.Bool.{Bool, true, false, not}
use borrow.Author.Tests.{not-false}
use Rattle.numbers.specs.Refusals.{no_book}
use Rattle.lists.proofs.Tests.{both}
use Rattle.book.specs.declared.Counts.{Counts}
use Rattle.book.specs.Layout.{Buffers}
use Rattle.book.specs.Sanity.{sane}
use Rattle.book.specs.View.{book_of, holds, laid}
use Rattle.book.proofs.Asking.{asked-held, asked_none}
use Rattle.std.specs.Prelude.{ℕ, Result, Err}
use Rattle.trial.specs.Changes.{Answers, Makes, after, edited, to}
use Rattle.trial.specs.Trial.{settle_asked, settled}

module _ (c : Counts) (b : Buffers) (x : Bool) (e : x ≡ holds c b) where
  -- no book
  pub settle-refused : not x ≡ true → Answers c b (λ b w. settle_asked w) (Err no_book) b
  unfolding edited after settle_asked
  settle-refused h = rw (asked_none c b x e h) (refl, refl)

  -- a book, and so its layout
  pub settle-laid : not x ≡ false → laid c b ≡ true
  unfolding holds
  settle-laid h = (both (laid c b) (sane (book_of c b)) (sym e ∙ not-false x h)).0

  -- it is settled
  pub settle-answered : (r : Result Counts ℕ) (b' : Buffers) → not x ≡ false → Makes c b (λ b w. to (settled w)) r b' → Answers c b (λ b w. settle_asked w) r b'
  unfolding settle_asked
  settle-answered r b' h q = rw (asked-held c b x e h).viewed q
