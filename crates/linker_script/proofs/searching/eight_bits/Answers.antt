-- `eight_bits` meets its contract. Assumes nothing.
use Rattle.linker_script.proofs.Blocks.{eight_none, eight_on, eight_all}
use Rattle.linker_script.proofs.searching.eight_bits.Goals as goal

pub loop-i-init : goal.loop-i-init
loop-i-init c = search eight_none

pub loop-i-preserved : goal.loop-i-preserved
loop-i-preserved c = search eight_on

pub returns : goal.returns
returns c = eight_all c.loop-i.invariant c.loop-i-test.false
