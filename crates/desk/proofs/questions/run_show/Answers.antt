-- `run_show` meets its contract. Assumes nothing.
use native.Mathlib.Omega.{arith}
use Rattle.book.specs.Layout.{five}
use Rattle.printing_book.specs.Shown.{shown_room}
use Rattle.desk.specs.Questions.{book_shown}
use Rattle.desk.proofs.Shown.{held, no_book_shown, some_book_shown}
use mathlib.Core.Path.{ap}
use mathlib.Core.Bool.{not}
use Rattle.desk.proofs.questions.run_show.Goals as goal

pub put_refused_answer-requires : goal.put_refused_answer-requires
unfolding shown_room
put_refused_answer-requires c = omega arith

pub returns-then-not-is_book : goal.returns-then-not-is_book
returns-then-not-is_book c =
    let a = c.args in
    let b = five a.book.nodes.now a.book.names.now a.book.lines.now a.book.pool.now a.book.journal.now in
    no_book_shown a.book.counts b _ c.is_book.ensures (book_shown a.book.counts b a.what) a.out.now _
    c.put_refused_answer.result _ c.printed.ensures (ap not c.if-not-is_book.true)
    c.put_refused_answer.ensures

pub show-requires : goal.show-requires
show-requires c =
    let a = c.args in
    let b = five a.book.nodes.now a.book.names.now a.book.lines.now a.book.pool.now a.book.journal.now in
    c.requires

pub invariant_of-show : goal.invariant_of-show
invariant_of-show c =
    let a = c.args in
    let b = five a.book.nodes.now a.book.names.now a.book.lines.now a.book.pool.now a.book.journal.now in
    record { holds = held a.book.counts b _ c.is_book.ensures (ap not c.if-not-is_book.false) }

pub returns : goal.returns
returns c =
    let a = c.args in
    let b = five a.book.nodes.now a.book.names.now a.book.lines.now a.book.pool.now a.book.journal.now in
    some_book_shown a.book.counts b _ c.is_book.ensures (book_shown a.book.counts b a.what) a.out.now _
    c.show.result _ c.printed-2.ensures (ap not c.if-not-is_book.false) c.show.ensures
