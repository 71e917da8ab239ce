-- What each thing of a list is, and what some thing is. Assumes nothing.
use Rattle.std.specs.Prelude.{List, [], ◌∷◌, Bool, true, false, ◌&&◌, ◌||◌}

-- whether each of them is as `ok` asks
unfoldable pub every : {X : Type 0} → (X → Bool) → List X → Bool
every ok [] = true
every ok (x ∷ xs) = ok x && every ok xs

-- whether one of them is
unfoldable pub any : {X : Type 0} → (X → Bool) → List X → Bool
any ok [] = false
any ok (x ∷ xs) = ok x || any ok xs
