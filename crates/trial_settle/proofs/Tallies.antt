-- How many copies there are (specs/Copies.antt), line by line. Assumes nothing.
use Prim.Native.Nat.{ℕ, zero, suc, ◌+◌, ◌<◌}
use mathlib.Core.Path.{◌≡◌, refl, sym, ap, ◌∙◌}
use mathlib.Core.List.{List, [], ◌∷◌}
use mathlib.Core.Bool.{Bool, true, false, cond}
use native.Mathlib.Numerals.{add-one}
use native.Mathlib.Omega.{arith}
use borrow.Author.Tests.{ne_eqb}
use lib.Dec.{eqb}
use lib.ListN.{length, drop, length-append}
use lib.Seq.{drop-cons}
use Rattle.book.specs.Books.{Line, no_line}
use Rattle.book.specs.Edits.{line_at, stands}
use Rattle.trial.specs.Trial.{standing}
use Rattle.trial_settle.specs.Copies.{copies, moved, row_copies, row_of, run}

pub run_length : (k source target : ℕ) → length (run k source target) ≡ k
unfolding run
run_length zero source target = refl
run_length (suc k) source target = ap suc (run_length k (suc source) (suc target))

-- so many of a line that stands
moved_length : (t : Bool) (k source target : ℕ) → length (cond t [] (run k source target)) ≡ cond t 0 k
moved_length true k source target = refl
moved_length false k source target = run_length k source target

module _ {X : Type 0} (has : Line → List X) (source target : ℕ) where
  -- a struck line adds none
  tally_struck : (x : Line) (xs : List Line) → stands x ≡ false → copies has source target (x ∷ xs) ≡ copies has (source + length (has x)) target xs
  unfolding copies
  tally_struck x xs e = rw e

  -- one that stands adds those of its things, or none where they stay in their place
  tally_kept : (x : Line) (xs : List Line) → stands x ≡ true
      → length (copies has source target (x ∷ xs))
      ≡ cond (eqb source target) 0 (length (has x)) + length (copies has (source + length (has x)) (target + length (has x)) xs)
  unfolding copies
  tally_kept x xs e =
      rw e
      (length-append (moved (length (has x)) source target) (copies has (source + length (has x)) (target + length (has x)) xs)
      ∙ ap (λ (k : ℕ). k + length (copies has (source + length (has x)) (target + length (has x)) xs))
      (moved_length (eqb source target) (length (has x)) source target))

  -- the same of line i, where those from it on are left
  module _ (ls : List Line) (i : ℕ) (h : i < length ls) where
    here : drop i ls ≡ line_at ls i ∷ drop (i + 1) ls
    here = drop-cons ls i no_line h ∙ ap (λ (k : ℕ). line_at ls i ∷ drop k ls) (sym (add-one i))

    pub left_struck : stands (line_at ls i) ≡ false
        → copies has source target (drop i ls) ≡ copies has (source + length (has (line_at ls i))) target (drop (i + 1) ls)
    left_struck e = ap (copies has source target) here ∙ tally_struck (line_at ls i) (drop (i + 1) ls) e

    pub left_kept : stands (line_at ls i) ≡ true
        → length (copies has source target (drop i ls))
        ≡ cond (eqb source target) 0 (length (has (line_at ls i)))
        + length (copies has (source + length (has (line_at ls i))) (target + length (has (line_at ls i))) (drop (i + 1) ls))
    left_kept e = ap (λ (xs : List Line). length (copies has source target xs)) here ∙ tally_kept (line_at ls i) (drop (i + 1) ls) e

-- ---- rows: behind a struck line each that stands moves
rows_more : (t : Bool) (x : Line) (ls : List Line) (source target : ℕ) → stands x ≡ t → target < source
    → length (copies row_of (source + 1) (target + 1) ls) ≡ length (standing ls) → length (copies row_of (source + 1) target ls) ≡ length (standing ls)
    → length (copies row_of source target (x ∷ ls)) ≡ length (standing (x ∷ ls))
unfolding copies standing run
rows_more true x ls source target e h a b = rw (e, ne_eqb source target (λ q. omega arith)) (ap suc a)
rows_more false x ls source target e h a b = rw e b

rows_lower : (ls : List Line) (source target : ℕ) → target < source → length (copies row_of source target ls) ≡ length (standing ls)
unfolding copies standing
rows_lower [] source target h = refl
rows_lower (x ∷ ls) source target h =
    rows_more (stands x) x ls source target refl h
    (rows_lower ls (source + 1) (target + 1) (omega arith)) (rows_lower ls (source + 1) target (omega arith))

pub rows_tally : (x : Line) (ls : List Line) → stands x ≡ false → length (row_copies (x ∷ ls)) ≡ length (standing (x ∷ ls))
unfolding copies standing
rows_tally x ls e = rw e (rows_lower ls 1 0 (omega arith))
