-- `put_index` meets its contract. Assumes nothing.
use Rattle.printing_symbols.specs.Lines.{index_field}
use Rattle.printing_symbols.proofs.symbols.put_index.Goals as goal

pub returns-in-Some : goal.returns-in-Some
unfolding index_field
returns-in-Some c = let i = c.number in rw c.in-Some.is (rw i.ensures at c.put_number.ensures)

pub returns-in-None : goal.returns-in-None
unfolding index_field
returns-in-None c = rw c.in-None.is c.put_text.ensures
