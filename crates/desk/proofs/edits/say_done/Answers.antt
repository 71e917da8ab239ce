-- `say_done` meets its contract. Assumes nothing.
use mathlib.Core.Path.{refl}
use Rattle.lists.specs.Texts.{codes}
use Rattle.desk.specs.Edits.{done_said}
use Rattle.desk.proofs.Said.{add-said, settle-said, strike-said, symbol-said, undo-said}
use Rattle.desk.proofs.edits.say_done.Goals as goal

pub returns-in-Add : goal.returns-in-Add
unfolding codes
returns-in-Add c =
    let a = c.args in
    add-said a.c a.d a.e a.out.now _ c.put_numbered.result _ _ _ _ c.in-Add.is c.put_numbered.ensures

pub returns-in-Strike : goal.returns-in-Strike
unfolding codes
returns-in-Strike c =
    let a = c.args in
    strike-said a.c a.d a.e a.out.now _ c.put_numbered-in-Strike.result _ c.in-Strike.is c.put_numbered-in-Strike.ensures

pub returns-in-Undo : goal.returns-in-Undo
unfolding done_said codes
returns-in-Undo c =
    let a = c.args in
    undo-said a.c a.d a.e a.out.now _ c.put_text.result _ c.in-Undo.is c.put_text.ensures refl

pub returns-in-Settle : goal.returns-in-Settle
unfolding codes
returns-in-Settle c =
    let a = c.args in
    settle-said a.c a.d a.e a.out.now _ c.put_numbered-in-Settle.result c.in-Settle.is c.put_numbered-in-Settle.ensures

pub returns-in-Symbol : goal.returns-in-Symbol
unfolding codes
returns-in-Symbol c =
    let a = c.args in
    symbol-said a.c a.d a.e a.out.now _ c.put_numbered-in-Symbol.result _ _ _ c.in-Symbol.is
    c.excess.ensures c.put_numbered-in-Symbol.ensures
