-- `undo_by_value` meets its contract, by the laws of TakenBack and Answers. Assumes nothing.
use mathlib.Core.Path.{◌≡◌, refl}
use native.Mathlib.Omega.{arith}
use Rattle.book.specs.Layout.{five}
use Rattle.trial.specs.Trial.{undo_asked}
use Rattle.trial.proofs.Answers.{Shown, done_left, refused_left, shown}
use Rattle.trial_undo.proofs.TakenBack.{undo_able, undo-done, undo-no_book, undo-nothing}
use mathlib.Core.Path.{ap}
use mathlib.Core.Bool.{not}
use Rattle.trial_undo.proofs.undo_by_value.Goals as goal

pub returns-then-not-is_book : goal.returns-then-not-is_book
returns-then-not-is_book c =
    refused_left _ _ _ _ (λ b w. undo_asked w) (undo-no_book _ _ _ c.is_book.ensures (ap not c.if-not-is_book.true)) _ refl

pub returns-then-c-eq0 : goal.returns-then-c-eq0
returns-then-c-eq0 c =
    let n = undo-nothing c.args.c (let a = c.args in five a.nodes.now a.names.now a.lines.now a.pool.now a.journal.now) _ c.is_book.ensures (ap not c.if-not-is_book.false) (omega (arith, c.if-c-eq0.true)) in
    refused_left c.args.c (let a = c.args in five a.nodes.now a.names.now a.lines.now a.pool.now a.journal.now) (let a = c.args in five a.nodes.now a.names.now a.lines.now a.pool.now a.journal.now) _ (λ b w. undo_asked w) n _ refl

pub take_back_latest-counts-requires : goal.take_back_latest-counts-requires
take_back_latest-counts-requires c =
    let here : Shown c.args.c (let a = c.args in five a.nodes.now a.names.now a.lines.now a.pool.now a.journal.now) = shown _ _ _ c.is_book.ensures (ap not c.if-not-is_book.false) in
    let edited : c.args.c.edits ≡ 0 → ⊥ = λ z. omega (arith, z, c.if-c-eq0.false) in
    undo_able here edited

pub returns : goal.returns
returns c =
    let here : Shown c.args.c (let a = c.args in five a.nodes.now a.names.now a.lines.now a.pool.now a.journal.now) = shown _ _ _ c.is_book.ensures (ap not c.if-not-is_book.false) in
    let edited : c.args.c.edits ≡ 0 → ⊥ = λ z. omega (arith, z, c.if-c-eq0.false) in
    done_left _ _ _ _ (λ b w. undo_asked w) (undo-done here edited _ _ _ _ c.take_back_latest-counts.ensures) _ refl
