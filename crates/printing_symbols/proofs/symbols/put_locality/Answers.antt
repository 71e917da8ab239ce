-- `put_locality` meets its contract. Assumes nothing.
use Rattle.lists.specs.Texts.{codes}
use Rattle.printing_symbols.specs.Lines.{locality_field}
use Rattle.printing_symbols.proofs.symbols.put_locality.Goals as goal

pub returns-in-None : goal.returns-in-None
unfolding locality_field codes
returns-in-None c = rw c.in-None.is c.put_text.ensures
