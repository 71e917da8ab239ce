-- What stands in the buffer, into which each line is put before it is printed, where something is not written. Assumes nothing.
use Rattle.std.specs.Prelude.{ℕ, ◌≡◌, List, ◌∷◌, ◌++◌}
use Rattle.lists.specs.Front.{front}
use Rattle.printing_why.specs.Whys.{put_over}

-- the lines ts were to be put into the buffer d: the last was put over what those before it left, and may not have been written, the rest was not put; l is left
pub record StopsWithin (ts : List (List ℕ)) (d l : List ℕ) : Type 0 where
  pub before : List (List ℕ)
  pub last : List ℕ
  pub rest : List (List ℕ)
  pub parts : ts ≡ before ++ last ∷ rest
  pub left : l ≡ front last (put_over before d)
