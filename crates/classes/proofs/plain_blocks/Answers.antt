-- `plain_blocks` meets its contract. Assumes nothing.
use mathlib.Core.Path.{refl}
use native.Mathlib.Omega.{arith}
use Rattle.classes.proofs.Scanning.{blocks_on, blocks_end}
use Rattle.classes.proofs.plain_blocks.Goals as goal

pub loop-i-init : goal.loop-i-init
loop-i-init c = record { within = omega arith; left = refl }

pub returns-then-has_sign : goal.returns-then-has_sign
returns-then-has_sign c = search blocks_end

pub loop-i-preserved : goal.loop-i-preserved
loop-i-preserved c = search blocks_on

pub returns : goal.returns
returns c = search blocks_end
