-- `render_counts` meets its contract. Assumes nothing.
use Rattle.book.specs.Layout.{five}
use Rattle.book.specs.View.{view}
use Rattle.printing_symbols.proofs.Counted.{both-counted, first_refused, second-refused}
use Rattle.printing_symbols.proofs.render_counts.Goals as goal

pub returns-in-Err : goal.returns-in-Err
returns-in-Err c =
    let a = c.args in
    first_refused a.out.now (view a.book.counts (five a.book.nodes.now a.book.names.now a.book.lines.now a.book.pool.now a.book.journal.now)) c.version_count.ensures c.in-Err.is
    (rw c.number.ensures at c.put_refused_line.ensures)

pub returns-in-Err-parent_count : goal.returns-in-Err-parent_count
returns-in-Err-parent_count c =
    let a = c.args in
    second-refused a.out.now (view a.book.counts (five a.book.nodes.now a.book.names.now a.book.lines.now a.book.pool.now a.book.journal.now)) c.version_count.ensures c.in-Ok.is
    c.parent_count.ensures c.in-Err-parent_count.is (rw c.number-in-Err-parent_count.ensures at c.put_refused_line-in-Err-parent_count.ensures)

pub returns-in-Ok-parent_count : goal.returns-in-Ok-parent_count
returns-in-Ok-parent_count c =
    let a = c.args in
    both-counted a.out.now (view a.book.counts (five a.book.nodes.now a.book.names.now a.book.lines.now a.book.pool.now a.book.journal.now)) c.version_count.ensures c.in-Ok.is
    c.parent_count.ensures c.in-Ok-parent_count.is c.put_counts_line.ensures
