-- What an edit answers and leaves in lent buffers, from what it makes of the book: a refusal, or a book laid out anew in the same rooms. The Bool that is
-- named x is whether the buffers hold a book, and the code asked whether they do not. Assumes nothing.
use Prim.Native.Nat.{ℕ}
use mathlib.Core.Path.{◌≡◌, refl, sym, ap, ◌∙◌}
use mathlib.Core.Bool.{Bool, true, false, not}
use Rattle.std.specs.Prelude.{Option, Some, Result, Ok, Err}
use native.Mathlib.Omega.{arith}
use borrow.Author.Tests.{not-false}
use Rattle.lists.proofs.Tests.{both}
use Rattle.book.specs.declared.Counts.{Counts}
use Rattle.book.specs.Books.{Book}
use Rattle.book.specs.Edits.{journal_fits}
use Rattle.book.specs.Layout.{Buffers}
use Rattle.book.specs.Sanity.{kind_good, nodes_good, sane}
use Rattle.book.specs.View.{book_of, holds, laid, view}
use Rattle.book.proofs.Asking.{held-book}
use Rattle.book.proofs.Views.{Layout, Rooms, laid_out_same, laid-packs, layout-buffers, layout-counts}
use Rattle.trial.specs.Changes.{Answers, Change, Leaves, Updates, after, counts_after, edit_refusal, edited, no, to}

pub refusal_answers : (b : Buffers) (x : Change) (n : ℕ) → x ≡ no n → Leaves b x (Err n) b
unfolding edited after
refusal_answers b x n e = (rw e, rw e)

pub layout_answers : (c : Counts) (b b' : Buffers) (w : Book) (x : Change) → x ≡ to w → Layout c b' w → Rooms b' b → Leaves b x (Ok c) b'
unfolding edited after
layout_answers c b b' w x e t r = (
  rw e (ap Ok (layout-counts t)),
  rw e (layout-buffers t ∙ laid_out_same b' b w r),
)

-- the number, the counts and the buffers that are left, from the answer r
module _ (c : Counts) (b b' : Buffers) (r : Result Counts ℕ) where
  done_number : (x : Change) (d : Counts) → Ok d ≡ edited x → (0 ≡ edit_refusal (edited x)) × (d ≡ counts_after c x)
  unfolding edited counts_after
  done_number (to w) d e = (refl, cc)
  done_number (no n) d e = let z : ◌≡◌ {A = ℕ} 0 1 = cc in absurd (omega arith)

  refused_number : (x : Change) (n : ℕ) → Err n ≡ edited x → (n ≡ edit_refusal (edited x)) × (c ≡ counts_after c x)
  unfolding edited counts_after
  refused_number (to w) n e = let z : ◌≡◌ {A = ℕ} 0 1 = cc in absurd (omega arith)
  refused_number (no m) n e = (cc, refl)

  module _ (ask : Buffers → Option Book → Change) (a : Answers c b ask r b') where
    pub done_left : (d : Counts) → r ≡ Ok d → Updates c b ask 0 d b'
    done_left d e = let k = done_number (ask b (view c b)) d (sym e ∙ a.0) in (k.0, k.1, a.1)

    pub refused_left : (n : ℕ) → r ≡ Err n → Updates c b ask n c b'
    refused_left n e = let k = refused_number (ask b (view c b)) n (sym e ∙ a.0) in (k.0, k.1, a.1)

-- the book that is held: it is viewed, it is laid out, and its journal fits
pub record Shown (c : Counts) (b : Buffers) : Type 0 where
  pub viewed : view c b ≡ Some (book_of c b)
  pub layout : Layout c b (book_of c b)
  pub fitting : journal_fits (book_of c b).edits (book_of c b).lines ≡ true

pub shown : (c : Counts) (b : Buffers) (x : Bool) → x ≡ holds c b → not x ≡ false → Shown c b
unfolding holds sane
shown c b x e h =
    let g : holds c b ≡ true = sym e ∙ not-false x h in
    let a = both (laid c b) _ g in
    let s = both (nodes_good (book_of c b).nodes) _ a.1 in
    record {
      viewed = (held-book c b g).viewed;
      layout = laid-packs c b a.0;
      fitting = (both (kind_good (book_of c b)) _ s.1).1;
    }
