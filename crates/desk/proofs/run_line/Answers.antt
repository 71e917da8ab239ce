-- `run_line` meets its contract. Assumes nothing.
use Prim.Native.Nat.{◌+◌, ◌≤◌}
use mathlib.Core.Path.{refl, sym, ap, ◌∙◌}
use Rattle.std.specs.Prelude.{Some}
use native.Mathlib.Omega.{arith}
use borrow.Author.Tests.{leb-false, leb-true}
use lib.ListN.{length}
use Rattle.book.specs.Layout.{five}
use Rattle.printing.specs.Printing.{answer_room}
use Rattle.printing_book.specs.Shown.{shown_room}
use Rattle.desk.proofs.RanLines.{edit_answered, not_answered, question-answered, shown_suffices, unknown-answered}
use Rattle.desk.proofs.run_line.Goals as goal

pub returns-then-not-has_room : goal.returns-then-not-has_room
returns-then-not-has_room c =
    not_answered c.args.text.now c.args.c (let a = c.args in five a.nodes.now a.names.now a.lines.now a.pool.now a.journal.now) c.args.line.now c.args.out.now
    (leb-false _ _ (sym c.has_room.ensures ∙ c.if-not-has_room.true))

pub run_edit-requires : goal.run_edit-requires
run_edit-requires c =
    let roomy : let a = c.args in shown_room a.c + length a.line.now ≤ length a.out.now = leb-true _ _ (sym c.has_room.ensures ∙ c.if-not-has_room.false) in
    let answerable : answer_room ≤ length c.args.out.now = let a = c.args in shown_suffices a.c (length a.out.now) (omega (arith, roomy)) in
    answerable

pub run_question-requires : goal.run_question-requires
run_question-requires c =
    let roomy : let a = c.args in shown_room a.c + length a.line.now ≤ length a.out.now = leb-true _ _ (sym c.has_room.ensures ∙ c.if-not-has_room.false) in
    roomy

pub run_unknown-requires : goal.run_unknown-requires
run_unknown-requires c =
    let roomy : let a = c.args in shown_room a.c + length a.line.now ≤ length a.out.now = leb-true _ _ (sym c.has_room.ensures ∙ c.if-not-has_room.false) in
    let answerable : answer_room ≤ length c.args.out.now = let a = c.args in shown_suffices a.c (length a.out.now) (omega (arith, roomy)) in
    answerable

pub returns-in-Some-Edits : goal.returns-in-Some-Edits
returns-in-Some-Edits c =
    let roomy : let a = c.args in shown_room a.c + length a.line.now ≤ length a.out.now = leb-true _ _ (sym c.has_room.ensures ∙ c.if-not-has_room.false) in
    let a = c.args in
    edit_answered a.text.now a.c a.line.now a.out.now roomy (let a = c.args in five a.nodes.now a.names.now a.lines.now a.pool.now a.journal.now) _ c.command_of.ensures _ _
    (five _ _ _ _ _) _ (c.in-Some-Edits.is ∙ ap (λ m. Some m) c.in-Some-Edits.field-0-is) c.run_edit.ensures

pub returns-in-Some-Asks : goal.returns-in-Some-Asks
returns-in-Some-Asks c =
    let roomy : let a = c.args in shown_room a.c + length a.line.now ≤ length a.out.now = leb-true _ _ (sym c.has_room.ensures ∙ c.if-not-has_room.false) in
    let a = c.args in
    question-answered a.text.now a.c a.line.now a.out.now roomy (let a = c.args in five a.nodes.now a.names.now a.lines.now a.pool.now a.journal.now) _
    c.command_of.ensures _ _ (let a = c.args in five a.nodes.now a.names.now a.lines.now a.pool.now a.journal.now) _ (c.in-Some-Asks.is ∙ ap (λ m. Some m) c.in-Some-Asks.field-0-is) c.run_question.ensures refl

pub returns-in-None : goal.returns-in-None
returns-in-None c =
    let roomy : let a = c.args in shown_room a.c + length a.line.now ≤ length a.out.now = leb-true _ _ (sym c.has_room.ensures ∙ c.if-not-has_room.false) in
    let a = c.args in
    unknown-answered a.text.now a.c a.line.now a.out.now roomy (let a = c.args in five a.nodes.now a.names.now a.lines.now a.pool.now a.journal.now) _
    c.command_of.ensures _ _ (let a = c.args in five a.nodes.now a.names.now a.lines.now a.pool.now a.journal.now) c.in-None.is c.run_unknown.ensures refl
