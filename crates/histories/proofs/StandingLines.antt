-- The lines that stand (`standing` of crate trial): struck lines decide nothing, so each lookup finds among them the line that it finds among all. Assumes
-- nothing.
use mathlib.Core.Path.{◌≡◌, refl, ◌∙◌}
use mathlib.Core.List.{List, [], ◌∷◌, ◌++◌}
use mathlib.Core.Bool.{Bool, true, false, ◌||◌}
use lib.Seq.{append_snoc}
use Rattle.lists.specs.Each.{any}
use Rattle.book.specs.Books.{Line}
use Rattle.book.specs.Edits.{stands}
use Rattle.ranking.specs.Walk.{Stage, walk}
use Rattle.ranking.proofs.Unmatched.{line_found, walk-without}
use Rattle.trial.specs.Trial.{kept_if, standing}

-- ---- lookups: m says which lines match, and no struck line does
module _ (m : Line → Bool) (struck_out : (x : Line) → stands x ≡ false → m x ≡ false) where
  pub standing_match : (ls : List Line) → any m ls ≡ any m (standing ls)
  unfolding standing any
  standing_match [] = refl
  standing_match (x ∷ ls) = go (stands x) refl (standing_match ls)
    where
      go : (t : Bool) → stands x ≡ t → any m ls ≡ any m (standing ls) → (m x || any m ls) ≡ any m (kept_if t x (standing ls))
      go true a e = rw e
      go false a e = rw (struck_out x a) e

  -- with the lines xs in front of those that are looked through
  found_behind : (ts : List Stage) (xs ls : List Line) → line_found (xs ++ ls) (walk m ts (xs ++ ls)) ≡ line_found (xs ++ standing ls) (walk m ts (xs ++ standing ls))
  unfolding standing
  found_behind ts xs [] = refl
  found_behind ts xs (x ∷ ls) = go (stands x) refl (λ ys. found_behind ts ys ls)
    where
      go : (t : Bool) → stands x ≡ t
          → ((ys : List Line) → line_found (ys ++ ls) (walk m ts (ys ++ ls)) ≡ line_found (ys ++ standing ls) (walk m ts (ys ++ standing ls)))
          → line_found (xs ++ x ∷ ls) (walk m ts (xs ++ x ∷ ls)) ≡ line_found (xs ++ kept_if t x (standing ls)) (walk m ts (xs ++ kept_if t x (standing ls)))
      go true a more = rw (append_snoc xs x ls, append_snoc xs x (standing ls)) at (more (xs ++ x ∷ []))
      go false a more = walk-without m ts xs x ls (struck_out x a) ∙ more xs

  pub standing-found : (ts : List Stage) (ls : List Line) → line_found ls (walk m ts ls) ≡ line_found (standing ls) (walk m ts (standing ls))
  standing-found ts ls = found_behind ts [] ls
