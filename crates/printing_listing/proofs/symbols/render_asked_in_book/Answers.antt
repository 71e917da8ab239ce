-- `render_asked_in_book` meets its contract. Assumes nothing.
use Rattle.book.specs.Layout.{five}
use Rattle.book.specs.View.{view}
use Rattle.lookups.specs.Lookups.{bytes_of}
use Rattle.printing_symbols.proofs.Asked.{asked-put}
use Rattle.printing_listing.proofs.symbols.render_asked_in_book.Goals as goal

pub returns : goal.returns
returns c =
    let a = c.args in
    let p = c.put_symbol_line in
    asked-put a.out.now a.name.now (view a.book.lent.counts (five a.book.lent.nodes.now a.book.lent.names.now a.book.lent.lines.now a.book.lent.pool.now a.book.lent.journal.now))
    (bytes_of a.wanted) _ _ p.new.out p.result c.version_in_book-v.ensures
    c.locality_in_book-l.ensures p.ensures
