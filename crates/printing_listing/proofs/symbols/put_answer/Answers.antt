-- `put_answer` meets its contract. Assumes nothing.
use native.Mathlib.Omega.{arith}
use Rattle.book.specs.Layout.{five}
use Rattle.book.specs.View.{view}
use Rattle.printing_listing.proofs.Answers.{answer_put, answer_within}
use Rattle.printing_listing.proofs.symbols.put_answer.Goals as goal

pub overflow_add-result : goal.overflow_add-result
overflow_add-result c =
    let z =
    (let a = c.args in
    let p = c.render_symbol_in_book-n in
    answer_within (view a.book.lent.counts (five a.book.lent.nodes.now a.book.lent.names.now a.book.lent.lines.now a.book.lent.pool.now a.book.lent.journal.now)) a.line.now
    a.out.now a.at _ p.result c.requires p.ensures) in
    let g = c.well_formed in
    omega arith

pub returns : goal.returns
returns c =
    let a = c.args in
    let p = c.render_symbol_in_book-n in
    answer_put (view a.book.lent.counts (five a.book.lent.nodes.now a.book.lent.names.now a.book.lent.lines.now a.book.lent.pool.now a.book.lent.journal.now))
    a.line.now a.out.now a.at _ p.result c.requires p.ensures
