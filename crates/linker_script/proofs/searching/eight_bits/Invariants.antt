-- `eight_bits` meets its contract. Assumes nothing.
use Rattle.linker_script.proofs.Blocks.{Eight}
use Rattle.linker_script.proofs.searching.eight_bits.Given as goal

abbrev pub invariant-loop-i : goal.invariant-loop-i
invariant-loop-i l = Eight l.x l.s l.at l.low l.i

abbrev pub decreases-loop-i : goal.decreases-loop-i
decreases-loop-i l = l.i
