-- `found` meets its contract. Assumes nothing.
use mathlib.Core.Path.{refl}
use Rattle.utf8.specs.Utf8.{character}
use Rattle.utf8.proofs.found.Goals as goal

pub returns : goal.returns
unfolding character
returns c = refl
