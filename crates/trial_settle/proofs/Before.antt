-- The lines before the first struck one (`before_struck`, specs/Copies.antt). Assumes nothing.
use Prim.Native.Nat.{ℕ, suc, ◌≤◌, ◌<◌}
use mathlib.Core.Path.{◌≡◌, refl, sym, ap, ◌∙◌}
use mathlib.Core.List.{List, [], ◌∷◌, ◌++◌}
use mathlib.Core.Bool.{Bool, true, false, cond, false≢true}
use native.Mathlib.Omega.{arith}
use lib.ListN.{length, drop, take, take-append-drop}
use lib.Seq.{take_all}
use Rattle.lists.specs.Each.{every}
use Rattle.packing.proofs.TableLaws.{every_at}
use Rattle.book.specs.Books.{Line, no_line}
use Rattle.book.specs.Edits.{line_at, stands}
use Rattle.trial.specs.Trial.{standing}
use Rattle.trial.proofs.Standing.{standing-append, standing_same}
use Rattle.trial_settle.specs.Copies.{before_struck}

-- how many they are, line by line
counted : (t : Bool) (x : Line) (xs : List Line) → length (cond t (x ∷ xs) []) ≡ cond t (suc (length xs)) 0
counted true x xs = refl
counted false x xs = refl

pub before_count : (x : Line) (xs : List Line) → length (before_struck (x ∷ xs)) ≡ cond (stands x) (suc (length (before_struck xs))) 0
unfolding before_struck
before_count x xs = counted (stands x) x (before_struck xs)

-- ---- what is known of them: they are the first lines, all of them stand, and a line behind them, if there is one, does not
pub record Before (xs : List Line) : Type 0 where
  pub front : before_struck xs ≡ take (length (before_struck xs)) xs
  pub all : every stands (before_struck xs) ≡ true
  pub fewer : length (before_struck xs) ≤ length xs
  pub next : length (before_struck xs) < length xs → stands (line_at xs (length (before_struck xs))) ≡ false

before_more : (t : Bool) (x : Line) (xs : List Line) → stands x ≡ t → Before xs → Before (x ∷ xs)
unfolding before_struck every
before_more true x xs e b = record {
  front = rw e (ap (λ (ys : List Line). x ∷ ys) b.front);
  all = rw e (rw e b.all);
  fewer = rw e (omega (arith, b.fewer));
  next = rw e (λ h. b.next (omega arith));
}
before_more false x xs e b = record { front = rw e; all = rw e; fewer = rw e (omega arith); next = rw e (λ h. e) }

pub before : (xs : List Line) → Before xs
unfolding before_struck every
before [] = record { front = refl; all = refl; fewer = omega arith; next = λ h. absurd (omega arith) }
before (x ∷ xs) = before_more (stands x) x xs refl (before xs)

-- with those from there on they are all
pub before_split : (xs : List Line) → xs ≡ before_struck xs ++ drop (length (before_struck xs)) xs
before_split xs =
    sym (take-append-drop (length (before_struck xs)) xs)
    ∙ ap (λ (ys : List Line). ys ++ drop (length (before_struck xs)) xs) (sym (before xs).front)

-- f is their number
module _ (xs : List Line) {f : ℕ} (e : f ≡ length (before_struck xs)) where
  first_lines : before_struck xs ≡ take f xs
  first_lines = (before xs).front ∙ ap (λ (k : ℕ). take k xs) (sym e)

  -- where they are all, all stand
  pub all_before : length xs ≤ f → every stands xs ≡ true
  all_before h = ap (every stands) (sym (first_lines ∙ take_all f xs h)) ∙ (before xs).all

  -- where they are not, the next line is struck, and so not all stand
  pub next_struck : f < length xs → stands (line_at xs f) ≡ false
  next_struck h = ap (λ (k : ℕ). stands (line_at xs k)) e ∙ (before xs).next (omega arith)

  pub some_struck : f < length xs → every stands xs ≡ false
  some_struck h = at (every stands xs) refl
    where
      at : (t : Bool) → every stands xs ≡ t → t ≡ false
      at true w = absurd (false≢true (sym (next_struck h) ∙ every_at stands xs f no_line w h))
      at false w = refl

  -- the lines that stand are these, and those of the rest that do
  pub standing_behind : standing xs ≡ take f xs ++ standing (drop f xs)
  standing_behind =
      ap standing (sym (take-append-drop f xs))
      ∙ standing-append (take f xs) (drop f xs)
      ∙ ap (λ (ys : List Line). ys ++ standing (drop f xs)) (standing_same (take f xs) (ap (every stands) (sym first_lines) ∙ (before xs).all))
