-- A buffer with its first elements written over. Assumes nothing.
use Rattle.std.specs.Prelude.{List, ◌++◌, length, drop}

-- d with u in the place of its first elements
unfoldable pub front : {A : Type 0} → List A → List A → List A
front u d = u ++ drop (length u) d
