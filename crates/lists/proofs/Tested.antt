-- `every` and `any` are what an iterator's `all` and `any` answer, as std has it. Assumes nothing.
use mathlib.Core.Path.{◌≡◌, refl}
use mathlib.Core.List.{List, [], ◌∷◌}
use mathlib.Core.Bool.{Bool}
use Rattle.std.specs.List.{list_all, list_any}
use Rattle.lists.specs.Each.{any, every}

pub all_every : {X : Type 0} (ok : X → Bool) (xs : List X) → list_all ok xs ≡ every ok xs
unfolding every
all_every ok [] = refl
all_every ok (x ∷ xs) = rw (all_every ok xs)

pub any_any : {X : Type 0} (ok : X → Bool) (xs : List X) → list_any ok xs ≡ any ok xs
unfolding any
any_any ok [] = refl
any_any ok (x ∷ xs) = rw (any_any ok xs)
