-- Lines that do not match do not count: one changed into another, one put behind all, and one taken away leave the line that is found. Assumes nothing.
use Prim.Native.Nat.{ℕ, zero, suc, ◌+◌}
use mathlib.Core.Path.{◌≡◌, refl, sym, ap, ◌∙◌}
use mathlib.Core.List.{List, [], ◌∷◌, ◌++◌}
use mathlib.Core.Bool.{Bool, true, false, cond, ◌&&◌, and-false}
use Rattle.std.specs.Prelude.{Option, Some, None}
use native.Mathlib.Omega.{arith}
use lib.ListN.{length, set, length-append}
use lib.Seq.{append_snoc, get_or-append_seam}
use Rattle.book.specs.Books.{Line}
use Rattle.book.specs.Edits.{line_at}
use Rattle.ranking.specs.Walk.{Stage, first_line, or_else, walk}

-- ---- one test
module _ (t : Line → Bool) where
  first_set : (s : ℕ) (ls : List Line) (k : ℕ) (y : Line) → t (line_at ls k) ≡ false → t y ≡ false → first_line t s (set ls k y) ≡ first_line t s ls
  unfolding first_line
  first_set s [] k y e f = refl
  first_set s (x ∷ xs) zero y e f = rw (e, f)
  first_set s (x ∷ xs) (suc k) y e f = ap (cond (t x) (Some s)) (first_set (s + 1) xs k y e f)

  first_last : (s : ℕ) (ls : List Line) (y : Line) → t y ≡ false → first_line t s (ls ++ y ∷ []) ≡ first_line t s ls
  unfolding first_line
  first_last s [] y f = rw f
  first_last s (x ∷ xs) y f = ap (cond (t x) (Some s)) (first_last (s + 1) xs y f)

-- ---- a walk
module _ (m : Line → Bool) where
  -- a line that does not match, in the place of another such, as a struck one
  pub walk-set : (ts : List Stage) (ls : List Line) (k : ℕ) (y : Line) → m (line_at ls k) ≡ false → m y ≡ false → walk m ts (set ls k y) ≡ walk m ts ls
  unfolding walk
  walk-set [] ls k y e f = refl
  walk-set (t ∷ ts) ls k y e f =
      rw (first_set (λ x. t x && m x) 0 ls k y (rw e (and-false (t (line_at ls k)))) (rw f (and-false (t y))))
      (ap (or_else (first_line (λ x. t x && m x) 0 ls)) (walk-set ts ls k y e f))

  -- one more at the end
  pub walk_last : (ts : List Stage) (ls : List Line) (y : Line) → m y ≡ false → walk m ts (ls ++ y ∷ []) ≡ walk m ts ls
  unfolding walk
  walk_last [] ls y f = refl
  walk_last (t ∷ ts) ls y f =
      rw (first_last (λ x. t x && m x) 0 ls y (rw f (and-false (t y))))
      (ap (or_else (first_line (λ x. t x && m x) 0 ls)) (walk_last ts ls y f))

-- ---- one taken away: the lines behind it get other numbers, so the law is of the line itself
-- the line with the number that is found
abbrev pub line_found : List Line → Option ℕ → Option Line
line_found ls (Some i) = Some (line_at ls i)
line_found ls None = None

first_of : (Line → Bool) → List Line → Option Line
first_of t [] = None
first_of t (x ∷ xs) = cond (t x) (Some x) (first_of t xs)

abbrev or_line : Option Line → Option Line → Option Line
or_line (Some x) r = Some x
or_line None r = r

walk_of : (Line → Bool) → List Stage → List Line → Option Line
walk_of m [] ls = None
walk_of m (t ∷ ts) ls = or_line (first_of (λ x. t x && m x) ls) (walk_of m ts ls)

first_of_step : (t : Line → Bool) (ps : List Line) (x : Line) (xs : List Line) (o : Option ℕ) (r : Option Line) (b : Bool)
    → line_found (ps ++ x ∷ xs) o ≡ r → line_found (ps ++ x ∷ xs) (cond b (Some (length ps)) o) ≡ cond b (Some x) r
first_of_step t ps x xs o r true e = rw get_or-append_seam
first_of_step t ps x xs o r false e = e

first_of_is : (t : Line → Bool) (ps ls : List Line) → line_found (ps ++ ls) (first_line t (length ps) ls) ≡ first_of t ls
unfolding first_line first_of
first_of_is t ps [] = refl
first_of_is t ps (x ∷ xs) =
    let k : length (ps ++ x ∷ []) ≡ length ps + 1 = simp length-append (omega arith) in
    let e = rw (append_snoc, k) at (first_of_is t (ps ++ x ∷ []) xs) in
    first_of_step t ps x xs (first_line t (length ps + 1) xs) (first_of t xs) (t x) e

or_found : (ls : List Line) (o r : Option ℕ) → line_found ls (or_else o r) ≡ or_line (line_found ls o) (line_found ls r)
or_found ls (Some i) r = refl
or_found ls None r = refl

walk_of_is : (m : Line → Bool) (ts : List Stage) (ls : List Line) → line_found ls (walk m ts ls) ≡ walk_of m ts ls
unfolding walk walk_of
walk_of_is m [] ls = refl
walk_of_is m (t ∷ ts) ls =
    or_found ls (first_line (λ x. t x && m x) 0 ls) (walk m ts ls) ∙ rw (first_of_is (λ x. t x && m x) [] ls, walk_of_is m ts ls)

first_of_without : (t : Line → Bool) (xs : List Line) (y : Line) (ys : List Line) → t y ≡ false → first_of t (xs ++ y ∷ ys) ≡ first_of t (xs ++ ys)
unfolding first_of
first_of_without t [] y ys f = rw f
first_of_without t (x ∷ xs) y ys f = ap (cond (t x) (Some x)) (first_of_without t xs y ys f)

walk_of-without : (m : Line → Bool) (ts : List Stage) (xs : List Line) (y : Line) (ys : List Line) → m y ≡ false → walk_of m ts (xs ++ y ∷ ys) ≡ walk_of m ts (xs ++ ys)
unfolding walk_of
walk_of-without m [] xs y ys f = refl
walk_of-without m (t ∷ ts) xs y ys f =
    rw (first_of_without (λ x. t x && m x) xs y ys (rw f (and-false (t y))))
    (ap (or_line (first_of (λ x. t x && m x) (xs ++ ys))) (walk_of-without m ts xs y ys f))

pub walk-without : (m : Line → Bool) (ts : List Stage) (xs : List Line) (y : Line) (ys : List Line) → m y ≡ false
    → line_found (xs ++ y ∷ ys) (walk m ts (xs ++ y ∷ ys)) ≡ line_found (xs ++ ys) (walk m ts (xs ++ ys))
walk-without m ts xs y ys f = walk_of_is m ts (xs ++ y ∷ ys) ∙ walk_of-without m ts xs y ys f ∙ sym (walk_of_is m ts (xs ++ ys))
