-- `tell_symbol` meets its contract: there is room for the symbol's name and a node's. Assumes nothing.
use native.Mathlib.Omega.{arith}
use Rattle.book.specs.Layout.{five}
use Rattle.printing_book.proofs.ShownDump.{used}
use Rattle.why.proofs.Turns.{put-within}
use Rattle.why.proofs.tell_symbol.Goals as goal

pub render_why_in_book-n-requires : goal.render_why_in_book-n-requires
render_why_in_book-n-requires g c =
    let a = c.args in
    let p = c.requires in
    let u = used a.book.lent.counts (five a.book.lent.nodes.now a.book.lent.names.now a.book.lent.lines.now a.book.lent.pool.now a.book.lent.journal.now) a.book.holds in
    omega (arith, p.0, p.1, u.names)

pub returns-clause-ok : goal.returns-clause-ok
returns-clause-ok g c =
    let p = c.render_why_in_book-n.ensures in
    (p, put-within _ _ p (omega arith))
