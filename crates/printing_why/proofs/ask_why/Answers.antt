-- `ask_why` meets its contract. Assumes nothing.
use Rattle.book.specs.Layout.{five}
use Rattle.lookups.specs.Lookups.{bytes_of}
use Rattle.printing_why.proofs.WhyExits.{answer-asks, asked-put}
use Rattle.printing_why.proofs.ask_why.Goals as goal

pub put_why_line-requires : goal.put_why_line-requires
put_why_line-requires c =
    let a = c.args in
    answer-asks a.book.lent.counts (five a.book.lent.nodes.now a.book.lent.names.now a.book.lent.lines.now a.book.lent.pool.now a.book.lent.journal.now) c.args.book.holds
    a.raw.now a.demangled.now (bytes_of a.wanted) _ c.why_in_book-y.ensures
    a.out.now c.requires

pub returns : goal.returns
returns c =
    let a = c.args in
    asked-put a.book.lent.counts (five a.book.lent.nodes.now a.book.lent.names.now a.book.lent.lines.now a.book.lent.pool.now a.book.lent.journal.now) c.args.book.holds
    a.raw.now a.demangled.now (bytes_of a.wanted) _ c.why_in_book-y.ensures
    a.out.now a.text.now c.put_why_line.new.out c.put_why_line.result c.put_why_line.ensures
