-- `edit_rows` meets its contract. The loop's invariant: the rows from i on decide. Assumes nothing.
use native.Mathlib.Omega.{arith}
use Rattle.book_check.proofs.JournalChecks.{edits_start, edit_wrong, edit_add, edit_strike, edits_end}
use Rattle.book_check.proofs.journal.edit_rows.Goals as goal
use Rattle.book_check.proofs.journal.edit_rows.Goals.{then-what-ne1+else-what-ne2, else-what-ne1}

pub loop-i-init : goal.loop-i-init
loop-i-init c = search edits_start

pub returns-then-what-ne2 : goal.returns-then-what-ne2
returns-then-what-ne2 c =
    let z = c.loop-i.invariant in
    edit_wrong _ _ _ _ z (omega arith) (omega arith) c.if-what-ne1.true (λ e. omega (arith, c.if-what-ne2.true))

pub loop-i-preserved : goal.loop-i-preserved
loop-i-preserved c =
    let z = c.loop-i.invariant in
    elim c.if-what-ne1.branch [
      | then-what-ne1+else-what-ne2 w ↦ edit_strike _ _ _ _ z (omega arith) (omega arith) w.if-what-ne1.true (omega (arith, w.if-what-ne2.false))
      | else-what-ne1 w ↦ search edit_add
    ]

pub returns : goal.returns
returns c = search edits_end
