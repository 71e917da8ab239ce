-- `node_name` meets its contract: the part of the names from the name's start to its end has as many as the row says. Assumes nothing.
use Rattle.book.proofs.LineRows.{part_sized}
use Rattle.book.proofs.rows.node_name.Goals as goal

pub returns : goal.returns
returns c = search part_sized
