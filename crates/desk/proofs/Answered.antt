-- What is answered when an edit has run. d is the buffer that was lent for it, l what is left there, and k how many bytes were put. Assumes nothing.
use Prim.Native.Nat.{ℕ}
use mathlib.Core.Path.{◌≡◌, refl, ap, ◌∙◌}
use mathlib.Core.List.{List}
use mathlib.Core.Bool.{true}
use Rattle.book.specs.declared.Counts.{Counts}
use Rattle.book.specs.Layout.{Buffers}
use Rattle.std.specs.Prelude.{Result, Ok, Err}
use Rattle.trial.specs.Changes.{Change, Leaves, counts_after, edited, no, to}
use Rattle.printing.proofs.Pieces.{Begins}
use Rattle.desk.specs.declared.answering.Ran.{Ran}
use Rattle.desk.specs.Answers.{Finishes, Runs, edit_ran, editing, ran, ran_with}

-- ---- behind an edit that is refused, and behind one that is done
module _ (c : Counts) (say : Result Counts ℕ → List ℕ) (a : Result Counts ℕ) (d l : List ℕ) (k : ℕ) (r : Ran) where
  pub refused_finishes : (n : ℕ) → a ≡ Err n → Begins d (say (Err n)) l k → r ≡ ran_with c k true → Finishes c say a d l r
  refused_finishes n e p q = rw e (q ∙ ap (λ (n : ℕ). ran_with c n true) p.0, p.1)

  pub done_finishes : (v : Counts) → a ≡ Ok v → Begins d (say (Ok v)) l k → r ≡ ran_with v k true → Finishes c say a d l r
  done_finishes v e p q = rw e (q ∙ ap (λ (n : ℕ). ran_with v n true) p.0, p.1)

-- ---- an edit x that answers a and leaves b', and what is told of the answer
pub edit_runs : (c : Counts) (b b' : Buffers) (say : Result Counts ℕ → List ℕ) (x : Change) (a : Result Counts ℕ) (d l : List ℕ) (r : Ran)
    → Leaves b x a b' → Finishes c say a d l r → Runs c b (λ b w. editing c b say x) d r l b'
unfolding edited counts_after
edit_runs c b b' say x a d l r y z = (rw y.0 at z.0 ∙ counted x, rw y.0 at z.1, y.1)
  where
    counted : (x : Change) → edit_ran c say (edited x) ≡ ran (editing c b say x)
    counted (to w) = refl
    counted (no n) = refl
