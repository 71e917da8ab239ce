-- `run_question` meets its contract. Assumes nothing.
use Rattle.book.specs.Layout.{five}
use Rattle.desk.proofs.Shown.{ask_room, ask_told, show-told, why-asks, why-told}
use Rattle.desk.proofs.questions.run_question.Goals as goal

pub run_ask-requires : goal.run_ask-requires
run_ask-requires c = ask_room c.args.book.counts c.args.line.now c.args.out.now c.requires _ c.in-Ask.at c.tail.ensures

pub run_why-requires : goal.run_why-requires
run_why-requires c = why-asks c.args.book.counts c.args.line.now c.args.out.now c.requires _ c.in-Why.at c.tail-in-Why.ensures

pub returns-in-Ask : goal.returns-in-Ask
returns-in-Ask c =
    let a = c.args in
    ask_told a.text.now a.book.counts (let a = c.args in five a.book.nodes.now a.book.names.now a.book.lines.now a.book.pool.now a.book.journal.now) a.line.now a.q a.out.now _ _ _ _ c.in-Ask.is c.tail.ensures c.run_ask.ensures

pub returns-in-Why : goal.returns-in-Why
returns-in-Why c =
    let a = c.args in
    why-told a.text.now a.book.counts (let a = c.args in five a.book.nodes.now a.book.names.now a.book.lines.now a.book.pool.now a.book.journal.now) a.line.now a.q a.out.now _ _ _ _ c.in-Why.is c.tail-in-Why.ensures c.run_why.ensures

pub returns-in-Show : goal.returns-in-Show
returns-in-Show c =
    let a = c.args in
    show-told a.text.now a.book.counts (let a = c.args in five a.book.nodes.now a.book.names.now a.book.lines.now a.book.pool.now a.book.journal.now) a.line.now a.q a.out.now _ _ _ c.in-Show.is c.run_show.ensures
