-- `run_why` meets its contract. Assumes nothing.
use Rattle.book.specs.Layout.{five}
use Rattle.desk.proofs.AskExits.{why-told}
use Rattle.desk.proofs.asking.run_why.Goals as goal

pub returns : goal.returns
returns c =
    let a = c.args in
    why-told a.book.counts (five a.book.nodes.now a.book.names.now a.book.lines.now a.book.pool.now a.book.journal.now) a.text.now a.t.now a.out.now _
    c.render_why.result _ c.printed.ensures c.render_why.ensures
