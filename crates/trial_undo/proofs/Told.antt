-- From what `undo` answers and leaves in the counts that it is lent to an edit's answer. Assumes nothing.
use Prim.Native.Nat.{ℕ}
use mathlib.Core.Path.{◌≡◌, ap}
use mathlib.Core.Bool.{Bool, true, false, cond}
use mathlib.Core.List.{List}
use Rattle.std.specs.Prelude.{Option, Some, None, Ok, Err}
use native.Mathlib.Omega.{arith}
use Rattle.numbers.specs.Refusals.{no_book, nothing_to_undo}
use Rattle.book.specs.declared.Counts.{Counts}
use Rattle.book.specs.Books.{Book, Line, no_edits}
use Rattle.book.specs.Edits.{take_back}
use Rattle.book.specs.Layout.{Buffers}
use Rattle.book.specs.View.{view}
use Rattle.trial.specs.Changes.{Answers, Change, Leaves, Updates, after, counts_after, edit_refusal, edited, no, to}
use Rattle.trial.specs.Trial.{latest, undo_asked, without_latest}

-- no undo is refused by 0
undo-numbered : (w : Option Book) → undo_asked w ≡ no 0 → ⊥
unfolding undo_asked without_latest
undo-numbered None e = let z : no_book ≡ 0 = cc in omega arith
undo-numbered (Some w) e = go (no_edits w.edits) (take_back (latest w.edits) w.lines) e
  where
    go : (t : Bool) (ls : Option (List Line)) → cond t (no nothing_to_undo) (without_latest w ls) ≡ no 0 → ⊥
    go true ls e = let z : nothing_to_undo ≡ 0 = cc in omega arith
    go false None e = let z : no_book ≡ 0 = cc in omega arith
    go false (Some ls) e = let z : ◌≡◌ {A = ℕ} 0 1 = cc in omega arith

module _ (c : Counts) (b b' : Buffers) (n : ℕ) (d : Counts) where
  number-refuses : (x : Change) → (n ≡ edit_refusal (edited x)) × (d ≡ counts_after c x) × (b' ≡ after b x) → (n ≡ 0 → ⊥) → Leaves b x (Err n) b'
  unfolding edited
  number-refuses (to w) a h = absurd (h a.0)
  number-refuses (no m) a h = (ap Err a.0, a.2)

  zero_is_done : (x : Change) → (x ≡ no 0 → ⊥) → (n ≡ edit_refusal (edited x)) × (d ≡ counts_after c x) × (b' ≡ after b x) → n ≡ 0 → Leaves b x (Ok d) b'
  unfolding edited counts_after
  zero_is_done (to w) k a h = (ap Ok a.1, a.2)
  zero_is_done (no m) k a h = let z : m ≡ 0 = omega (arith, a.0) in absurd (k (ap no z))

  module _ (a : Updates c b (λ b w. undo_asked w) n d b') where
    pub told-refused : (n ≡ 0 → ⊥) → Answers c b (λ b w. undo_asked w) (Err n) b'
    told-refused h = number-refuses (undo_asked (view c b)) a h

    pub told-done : n ≡ 0 → Answers c b (λ b w. undo_asked w) (Ok d) b'
    told-done h = zero_is_done (undo_asked (view c b)) (undo-numbered (view c b)) a h
