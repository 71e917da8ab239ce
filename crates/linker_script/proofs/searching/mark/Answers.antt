-- `mark` meets its contract. Assumes nothing.
use lib.Dec.{eqb}
use Rattle.linker_script.proofs.Blocks.{mark_byte}
use Rattle.linker_script.proofs.searching.mark.Goals as goal

pub returns : goal.returns
returns c = mark_byte (eqb c.args.c c.args.x)
