-- `shown_room` meets its contract. Assumes nothing.
use native.Mathlib.Omega.{arith}
use Rattle.printing_book.specs.Shown.{shown_room}
use Rattle.printing_book.proofs.shown_room.Goals as goal

pub returns : goal.returns
unfolding shown_room
returns c = omega arith
