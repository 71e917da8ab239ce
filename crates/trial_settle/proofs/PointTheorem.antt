-- The known points of document 02, request 04, hold of what a settle copies: where lines are written out, each side computes to the other. Assumes nothing.
use Prim.Native.Nat.{ℕ}
use mathlib.Core.Path.{◌≡◌, refl, ap}
use mathlib.Core.List.{List, [], ◌∷◌, ◌++◌}
use mathlib.Core.Bool.{true, false≢true}
use native.Mathlib.Omega.{arith}
use lib.ListN.{get_or}
use Rattle.lists.specs.Each.{every}
use Rattle.lists.specs.Texts.{codes}
use Rattle.book.specs.Books.{Line}
use Rattle.book.specs.Edits.{marked, stands}
use Rattle.trial.specs.Trial.{standing}
use Rattle.trial_settle.specs.Copies.{bytes_of, carried, copies, joined, once, row_of, run}
use Rattle.trial_settle.specs.Points.{CopiedPoints, WrongCopies, one_by_one}
use Rattle.trial_settle.proofs.CopyLaws.{copies_none, copies-past}

-- however many lines stand before it, where the last is struck and no other nothing is copied
last_struck : {X : Type 0} (has : Line → List X) (ls : List Line) (x : Line) → every stands ls ≡ true → copies has 0 0 (ls ++ marked 1 x ∷ []) ≡ []
unfolding copies
last_struck has ls x h = copies-past has 0 ls (marked 1 x ∷ []) h

-- ---- the points
pub copied_points : CopiedPoints
unfolding codes copies run
copied_points = record {
  last_bytes = last_struck bytes_of;
  last_rows = last_struck row_of;
  none_bytes = copies_none bytes_of;
  none_rows = copies_none row_of;
  first_bytes = refl;
  first_rows = refl;
  all_bytes = refl;
  all_rows = refl;
  star_bytes = refl;
  star_rows = refl;
  later_bytes = refl;
  later_rows = refl;
}

-- lists that do not do: one struck line dropped after the other, a copy of what stays, and one copy left out
pub wrong_copies : WrongCopies
unfolding codes copies run joined standing every once carried one_by_one
wrong_copies = record {
  ours = refl;
  theirs = refl;
  their_rows = refl;
  same = refl;
  twice = λ c. false≢true c.targets;
  rows_twice = λ c. false≢true c.targets;
  from_0 = λ c. false≢true c.moves;
  one_short = λ c. omega (arith, ap (λ (l : List ℕ). get_or l 2 0) (c.leaves 0 []));
}
