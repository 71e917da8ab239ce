-- `open` meets its contract: what `fill` leaves, with the journal cleared. Assumes nothing.
use Rattle.book_opening.proofs.Opens.{clear_now, open_filled}
use Rattle.book_opening.proofs.open.Goals as goal

pub fill-requires : goal.fill-requires
fill-requires c = clear_now _ _ _ _ _ _ _ _ c.clear_book.ensures

pub returns : goal.returns
returns c =
    let a = c.args in
    open_filled a.how a.nodes.now a.names.now a.lines.now a.pool.now a.journal.now a.text.now
    c.clear_book.new.nodes c.clear_book.new.names c.clear_book.new.lines c.clear_book.new.pool
    c.clear_numbers.new.rows
    c.clear_book.ensures c.clear_numbers.ensures c.fill.result c.fill.new.nodes c.fill.new.names
    c.fill.new.lines c.fill.new.pool
    c.fill.ensures
