-- `make_edit` meets its contract. Assumes nothing.
use Rattle.book.specs.Layout.{five}
use Rattle.book.specs.View.{view}
use Rattle.desk.proofs.Made.{add_made, settle_made, strike_made, symbol_made, undo_made}
use Rattle.desk.proofs.edits.make_edit.Goals as goal

pub returns-in-Add : goal.returns-in-Add
returns-in-Add c =
    let a = c.args in
    let b = five a.nodes.now a.names.now a.lines.now a.pool.now a.journal.now in
    add_made b (five _ _ _ _ _) (view a.c b) a.line.now a.e c.add.result _ _ _ _ _ c.in-Add.is c.tail.ensures c.add.ensures

pub returns-in-Strike : goal.returns-in-Strike
returns-in-Strike c =
    let a = c.args in
    let b = five a.nodes.now a.names.now a.lines.now a.pool.now a.journal.now in
    strike_made b (five _ _ _ _ _) (view a.c b) a.line.now a.e c.strike.result _ c.in-Strike.is c.strike.ensures

pub returns-in-Undo : goal.returns-in-Undo
returns-in-Undo c =
    let a = c.args in
    let b = five a.nodes.now a.names.now a.lines.now a.pool.now a.journal.now in
    undo_made b (five _ _ _ _ _) (view a.c b) a.line.now a.e c.undo_latest.result c.in-Undo.is c.undo_latest.ensures

pub returns-in-Settle : goal.returns-in-Settle
returns-in-Settle c =
    let a = c.args in
    let b = five a.nodes.now a.names.now a.lines.now a.pool.now a.journal.now in
    settle_made b (five _ _ _ _ _) (view a.c b) a.line.now a.e c.settle.result c.in-Settle.is c.settle.ensures

pub returns-in-Symbol : goal.returns-in-Symbol
returns-in-Symbol c =
    let a = c.args in
    let b = five a.nodes.now a.names.now a.lines.now a.pool.now a.journal.now in
    symbol_made b (five _ _ _ _ _) (view a.c b) a.line.now a.e c.add_symbol.result _ _ _ c.in-Symbol.is c.tail-in-Symbol.ensures c.add_symbol.ensures
