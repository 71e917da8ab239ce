-- `line_bytes` meets its contract: the part of the pool from the bytes' start to their end has as many as the row says. Assumes nothing.
use Rattle.book.proofs.LineRows.{part_sized}
use Rattle.book.proofs.rows.line_bytes.Goals as goal

pub returns : goal.returns
returns c = search part_sized
