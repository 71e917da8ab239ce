-- `put_place` meets its contract. Assumes nothing.
use Rattle.lists.specs.Texts.{codes}
use Rattle.printing_symbols.specs.Lines.{locality_field}
use Rattle.printing_symbols.proofs.symbols.put_place.Goals as goal

pub returns-in-Global : goal.returns-in-Global
unfolding locality_field codes
returns-in-Global c = rw c.in-Global.is c.put_text.ensures

pub returns-in-Local : goal.returns-in-Local
unfolding locality_field codes
returns-in-Local c = rw c.in-Local.is c.put_text-in-Local.ensures
