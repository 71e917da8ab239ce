-- `take_back_latest` meets its contract, by the laws of Backs. Assumes nothing.
use Prim.Native.Nat.{◌+◌, ◌-◌, ◌*◌}
use mathlib.Core.Path.{◌≡◌, refl}
use mathlib.Core.List.{[], ◌∷◌}
use native.Mathlib.Omega.{arith}
use lib.Seq.{paste}
use Rattle.book.specs.Layout.{counts_with, edit_width}
use Rattle.trial_undo.proofs.Backs.{added_back, struck_back}
use Rattle.trial_undo.proofs.taking_back.take_back_latest.Goals as goal

pub overflow_cast-line : goal.overflow_cast-line
overflow_cast-line c = omega (arith, c.slice_known-5-1.given (edit_width * (c.args.c.edits - 1) + 1))

pub undo_add-start-requires : goal.undo_add-start-requires
undo_add-start-requires c =
    let h = c.requires.of_add c.if-what-eq-ADD.true in
    (h.0, h.1, h.2)

pub overflow_sub-c : goal.overflow_sub-c
overflow_sub-c c = omega (arith, (c.requires.of_add c.if-what-eq-ADD.true).3)

pub returns-then-what-eq-ADD : goal.returns-then-what-eq-ADD
returns-then-what-eq-ADD c =
    let emptied-edit : let a = c.args in c.put_two.new.rows ≡ paste a.journal.now (edit_width * (a.c.edits - 1)) (0 ∷ 0 ∷ []) edit_width = c.put_two.ensures in
    let counted : let b = c.args.c in c.counts_with.result ≡ counts_with b (b.lines - 1) c.undo_add-start.result (b.edits - 1) = c.counts_with.ensures in
    added_back _ _ _ _ _ _ _ _ emptied-edit _ c.if-what-eq-ADD.true c.undo_add-start.ensures counted

pub undo_strike-requires : goal.undo_strike-requires
undo_strike-requires c = c.requires.of_strike c.if-what-eq-ADD.false

pub returns : goal.returns
returns c =
    let emptied-edit : let a = c.args in c.put_two.new.rows ≡ paste a.journal.now (edit_width * (a.c.edits - 1)) (0 ∷ 0 ∷ []) edit_width = c.put_two.ensures in
    struck_back _ _ _ _ _ _ _ _ emptied-edit c.if-what-eq-ADD.false c.undo_strike.ensures refl c.counts_with-2.ensures
