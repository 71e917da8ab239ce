-- `render_opened` meets its contract. Assumes nothing.
use Rattle.book.specs.Layout.{five}
use Rattle.book.specs.View.{view}
use Rattle.printing_listing.proofs.Scripts.{opened-listed, opened-refused, symbols-room}
use Rattle.printing_listing.proofs.script.render_opened.Goals as goal

pub returns-then-refusal-ne0 : goal.returns-then-refusal-ne0
returns-then-refusal-ne0 c =
    let a = c.args in
    let p = c.put_refused_line in
    opened-refused (view a.book.counts (five a.book.nodes.now a.book.names.now a.book.lines.now a.book.pool.now a.book.journal.now)) a.symbols.now
    a.out.now c.requires.0 c.if-refusal-ne0.true p.ensures

pub render_symbols-requires : goal.render_symbols-requires
render_symbols-requires c =
    let a = c.args in
    let p = c.render_counts-from in
    symbols-room (view a.book.counts (five a.book.nodes.now a.book.names.now a.book.lines.now a.book.pool.now a.book.journal.now)) a.symbols.now
    a.out.now c.requires.0 c.requires.1 p.ensures

pub returns : goal.returns
returns c =
    let a = c.args in
    let p = c.render_counts-from in
    let q = c.render_symbols in
    opened-listed (view a.book.counts (five a.book.nodes.now a.book.names.now a.book.lines.now a.book.pool.now a.book.journal.now)) a.symbols.now
    a.out.now c.requires.0 c.requires.1 p.ensures c.if-refusal-ne0.false q.ensures
