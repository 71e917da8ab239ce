-- `not_found` meets its contract. Assumes nothing.
use mathlib.Core.Path.{refl}
use Rattle.utf8.specs.Utf8.{none}
use Rattle.utf8.proofs.not_found.Goals as goal

pub returns : goal.returns
unfolding none
returns c = refl
