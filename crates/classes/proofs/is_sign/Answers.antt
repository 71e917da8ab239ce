-- `is_sign` meets its contract. Assumes nothing.
use mathlib.Core.Path.{refl}
use Rattle.classes.specs.Classes.{nonstar, sign}
use Rattle.classes.proofs.is_sign.Goals as goal

pub returns : goal.returns
unfolding sign nonstar
returns c = refl
