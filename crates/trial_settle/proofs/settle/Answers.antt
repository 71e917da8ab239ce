-- `settle` meets its contract. Assumes nothing.
use Rattle.book.specs.Layout.{five}
use Rattle.trial_settle.proofs.AskedSettle.{settle-answered, settle-laid, settle-refused}
use mathlib.Core.Path.{ap}
use mathlib.Core.Bool.{not}
use Rattle.trial_settle.proofs.settle.Goals as goal

pub returns-then-not-is_book : goal.returns-then-not-is_book
returns-then-not-is_book c =
    settle-refused _ (let a = c.args in five a.nodes.now a.names.now a.lines.now a.pool.now a.journal.now) _ c.is_book.ensures (ap not c.if-not-is_book.true)

pub settle_lines-requires : goal.settle_lines-requires
settle_lines-requires c =
    settle-laid _ (let a = c.args in five a.nodes.now a.names.now a.lines.now a.pool.now a.journal.now) _ c.is_book.ensures (ap not c.if-not-is_book.false)

pub returns : goal.returns
returns c =
    settle-answered _ (let a = c.args in five a.nodes.now a.names.now a.lines.now a.pool.now a.journal.now) _ c.is_book.ensures _ _ (ap not c.if-not-is_book.false) c.settle_lines.ensures
