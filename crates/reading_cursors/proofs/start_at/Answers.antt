-- `start_at` meets its contract. Assumes nothing.
use mathlib.Core.Path.{refl}
use Rattle.reading_cursors.specs.Moves.{start}
use Rattle.reading_cursors.proofs.start_at.Goals as goal

pub returns : goal.returns
unfolding start
returns c = refl
