-- What a step answers at the place of the grammar that the code found. Assumes nothing.
use mathlib.Core.Path.{◌≡◌, sym, ap, ◌∙◌}
use mathlib.Core.List.{List}
use Prim.Native.Nat.{ℕ}
use Rattle.reading_cursors.specs.declared.Cursor.{Cursor}
use Rattle.reading_cursors.specs.declared.places.Place.{Place}
use Rattle.reading_cursors.specs.Moves.{Step}
use Rattle.reading.specs.Scripts.{step_at, next}

pub at_place : (s : List ℕ) (c : Cursor) (x : Place) → c.place ≡ x → (r : Step) → r ≡ step_at s c x → r ≡ next s c
unfolding next
at_place s c x z r e = e ∙ ap (step_at s c) (sym z)
