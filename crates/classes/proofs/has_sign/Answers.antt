-- `has_sign` meets its contract. Assumes nothing.
use Rattle.classes.proofs.Scanning.{block_start, block_on, block_end}
use Rattle.classes.proofs.has_sign.Goals as goal

pub loop-i-init : goal.loop-i-init
loop-i-init c = search block_start

pub loop-i-preserved : goal.loop-i-preserved
loop-i-preserved c = search block_on

pub returns : goal.returns
returns c = search block_end
