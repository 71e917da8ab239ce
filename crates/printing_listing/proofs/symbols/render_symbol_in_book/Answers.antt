-- `render_symbol_in_book` meets its contract. Assumes nothing.
use Rattle.book.specs.Layout.{five}
use Rattle.book.specs.View.{view}
use Rattle.printing_symbols.proofs.Asked.{name-count, part_room, plain-put, split-put, version-fits, version-starts}
use Rattle.printing_listing.proofs.symbols.render_symbol_in_book.Goals as goal

pub overflow_add-from : goal.overflow_add-from
overflow_add-from c = search version-fits

pub slice_bounds-render_asked_in_book-end : goal.slice_bounds-render_asked_in_book-end
slice_bounds-render_asked_in_book-end c = search name-count

pub slice_bounds-render_asked_in_book-count : goal.slice_bounds-render_asked_in_book-count
slice_bounds-render_asked_in_book-count c = search version-starts

pub slice_bounds-render_asked_in_book-start : goal.slice_bounds-render_asked_in_book-start
slice_bounds-render_asked_in_book-start c = search version-starts

pub render_asked_in_book-requires-in-Some : goal.render_asked_in_book-requires-in-Some
render_asked_in_book-requires-in-Some c = search part_room

pub returns-in-None : goal.returns-in-None
returns-in-None c =
    let a = c.args in
    let p = c.render_asked_in_book in
    plain-put a.line.now a.out.now _ c.find_at.ensures
    (view a.book.lent.counts (five a.book.lent.nodes.now a.book.lent.names.now a.book.lent.lines.now a.book.lent.pool.now a.book.lent.journal.now)) _ p.result
    c.in-None.is p.ensures

pub returns-in-Some : goal.returns-in-Some
returns-in-Some c =
    let a = c.args in
    let p = c.render_asked_in_book-in-Some in
    split-put a.line.now a.out.now _ c.find_at.ensures
    _ c.in-Some.is (view a.book.lent.counts (five a.book.lent.nodes.now a.book.lent.names.now a.book.lent.lines.now a.book.lent.pool.now a.book.lent.journal.now))
    _ p.result p.ensures
