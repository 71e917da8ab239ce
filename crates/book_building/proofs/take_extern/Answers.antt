-- `take_extern` meets its contract. Assumes nothing.
use Rattle.book_building.proofs.take_extern.Goals as goal

pub returns : goal.returns
returns c = rw c.mixed_in_block.ensures
