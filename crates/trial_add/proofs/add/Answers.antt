-- `add` meets its contract, by the laws of AskedAdd. Assumes nothing.
use Rattle.book.specs.Layout.{five}
use Rattle.trial_add.proofs.AskedAdd.{Taking, add_appended, add-no_book, add-rust, add_taking, add-unplaced, asks_append}
use mathlib.Core.Path.{ap}
use mathlib.Core.Bool.{not}
use Rattle.trial_add.proofs.add.Goals as goal

pub returns-then-not-is_book : goal.returns-then-not-is_book
returns-then-not-is_book c = add-no_book _ _ _ c.is_book.ensures _ _ _ _ (ap not c.if-not-is_book.true)

pub returns-then-c-eq-RUST : goal.returns-then-c-eq-RUST
returns-then-c-eq-RUST c = add-rust _ _ _ c.is_book.ensures (ap not c.if-not-is_book.false) _ _ _ _ c.if-c-eq-RUST.true

pub returns-then-not-may_stand : goal.returns-then-not-may_stand
returns-then-not-may_stand c =
    let taking : Taking c.args.c (let a = c.args in five a.nodes.now a.names.now a.lines.now a.pool.now a.journal.now) = add_taking _ _ _ c.is_book.ensures (ap not c.if-not-is_book.false) c.if-c-eq-RUST.false in
    add-unplaced taking _ _ _ _ c.may_stand.ensures _ (ap not c.if-not-may_stand.true)

pub append-requires : goal.append-requires
append-requires c =
    let taking : Taking c.args.c (let a = c.args in five a.nodes.now a.names.now a.lines.now a.pool.now a.journal.now) = add_taking _ _ _ c.is_book.ensures (ap not c.if-not-is_book.false) c.if-c-eq-RUST.false in
    asks_append taking _ _ _ _ c.may_stand.ensures (ap not c.if-not-may_stand.false)

pub returns : goal.returns
returns c =
    let taking : Taking c.args.c (let a = c.args in five a.nodes.now a.names.now a.lines.now a.pool.now a.journal.now) = add_taking _ _ _ c.is_book.ensures (ap not c.if-not-is_book.false) c.if-c-eq-RUST.false in
    add_appended taking _ _ _ _ c.may_stand.ensures (ap not c.if-not-may_stand.false)
    _ _ _ _ c.trim_ascii_end-trimmed.ensures.0 c.append.ensures
