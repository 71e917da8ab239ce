-- `strike` meets its contract, by the laws of AskedStrike. Assumes nothing.
use mathlib.Core.Path.{refl}
use native.Mathlib.Omega.{arith}
use Rattle.book.specs.Layout.{five}
use Rattle.trial_strike.proofs.AskedStrike.{Roomy, Told, strike-done, strike-few, strike_line-room, strike-no_book, strike-no_room, strike-past, strike-roomy, strike-row_room, strike-rust, strike-struck, strike-told}
use mathlib.Core.Path.{ap}
use mathlib.Core.Bool.{not}
use Rattle.trial_strike.proofs.strike.Goals as goal

pub returns-then-not-is_book : goal.returns-then-not-is_book
returns-then-not-is_book c = strike-no_book _ _ _ _ c.is_book.ensures (ap not c.if-not-is_book.true)

pub returns-then-c-eq-RUST : goal.returns-then-c-eq-RUST
returns-then-c-eq-RUST c = strike-rust _ _ _ _ c.is_book.ensures (ap not c.if-not-is_book.false) c.if-c-eq-RUST.true

pub returns-then-c-line : goal.returns-then-c-line
returns-then-c-line c = strike-past _ _ _ _ c.is_book.ensures (ap not c.if-not-is_book.false) c.if-c-eq-RUST.false c.if-c-line.true

pub bounds-lines-at : goal.bounds-lines-at
bounds-lines-at c =
    let told : Told c.args.c (let a = c.args in five a.nodes.now a.names.now a.lines.now a.pool.now a.journal.now) c.args.line = strike-told _ _ _ _ c.is_book.ensures (ap not c.if-not-is_book.false) c.if-c-eq-RUST.false c.if-c-line.false in
    strike_line-room told

pub returns-then-is_struck : goal.returns-then-is_struck
returns-then-is_struck c =
    let told : Told c.args.c (let a = c.args in five a.nodes.now a.names.now a.lines.now a.pool.now a.journal.now) c.args.line = strike-told _ _ _ _ c.is_book.ensures (ap not c.if-not-is_book.false) c.if-c-eq-RUST.false c.if-c-line.false in
    strike-struck told _ c.is_struck.ensures c.if-is_struck.true

pub returns-then-not-has_edit : goal.returns-then-not-has_edit
returns-then-not-has_edit c =
    let told : Told c.args.c (let a = c.args in five a.nodes.now a.names.now a.lines.now a.pool.now a.journal.now) c.args.line = strike-told _ _ _ _ c.is_book.ensures (ap not c.if-not-is_book.false) c.if-c-eq-RUST.false c.if-c-line.false in
    strike-no_room told _ c.is_struck.ensures c.if-is_struck.false _ c.has_edit.ensures (ap not c.if-not-has_edit.true)

pub overflow_add-lines : goal.overflow_add-lines
overflow_add-lines c =
    let told : Told c.args.c (let a = c.args in five a.nodes.now a.names.now a.lines.now a.pool.now a.journal.now) c.args.line = strike-told _ _ _ _ c.is_book.ensures (ap not c.if-not-is_book.false) c.if-c-eq-RUST.false c.if-c-line.false in
    let roomy : Roomy c.args.c (let a = c.args in five a.nodes.now a.names.now a.lines.now a.pool.now a.journal.now) c.args.line = strike-roomy told _ c.is_struck.ensures c.if-is_struck.false _ c.has_edit.ensures (ap not c.if-not-has_edit.false) in
    omega (arith, roomy.stands)

pub bounds-lines-at-2 : goal.bounds-lines-at-2
bounds-lines-at-2 c =
    let told : Told c.args.c (let a = c.args in five a.nodes.now a.names.now a.lines.now a.pool.now a.journal.now) c.args.line = strike-told _ _ _ _ c.is_book.ensures (ap not c.if-not-is_book.false) c.if-c-eq-RUST.false c.if-c-line.false in
    strike_line-room told

pub put_two-requires : goal.put_two-requires
put_two-requires c =
    let told : Told c.args.c (let a = c.args in five a.nodes.now a.names.now a.lines.now a.pool.now a.journal.now) c.args.line = strike-told _ _ _ _ c.is_book.ensures (ap not c.if-not-is_book.false) c.if-c-eq-RUST.false c.if-c-line.false in
    let roomy : Roomy c.args.c (let a = c.args in five a.nodes.now a.names.now a.lines.now a.pool.now a.journal.now) c.args.line = strike-roomy told _ c.is_struck.ensures c.if-is_struck.false _ c.has_edit.ensures (ap not c.if-not-has_edit.false) in
    strike-row_room roomy

pub overflow_add-c : goal.overflow_add-c
overflow_add-c c =
    let told : Told c.args.c (let a = c.args in five a.nodes.now a.names.now a.lines.now a.pool.now a.journal.now) c.args.line = strike-told _ _ _ _ c.is_book.ensures (ap not c.if-not-is_book.false) c.if-c-eq-RUST.false c.if-c-line.false in
    let roomy : Roomy c.args.c (let a = c.args in five a.nodes.now a.names.now a.lines.now a.pool.now a.journal.now) c.args.line = strike-roomy told _ c.is_struck.ensures c.if-is_struck.false _ c.has_edit.ensures (ap not c.if-not-has_edit.false) in
    omega (arith, strike-few roomy)

pub returns : goal.returns
returns c =
    let told : Told c.args.c (let a = c.args in five a.nodes.now a.names.now a.lines.now a.pool.now a.journal.now) c.args.line = strike-told _ _ _ _ c.is_book.ensures (ap not c.if-not-is_book.false) c.if-c-eq-RUST.false c.if-c-line.false in
    let roomy : Roomy c.args.c (let a = c.args in five a.nodes.now a.names.now a.lines.now a.pool.now a.journal.now) c.args.line = strike-roomy told _ c.is_struck.ensures c.if-is_struck.false _ c.has_edit.ensures (ap not c.if-not-has_edit.false) in
    strike-done roomy _ _ _ c.counts_with.ensures refl c.put_two.ensures
