-- `put_line` meets its contract: five stores are a paste. Assumes nothing.
use native.Mathlib.Omega.{arith}
use lib.ListN.{length-set}
use Rattle.book.proofs.LineRows.{row-stored}
use Rattle.book.proofs.rows.put_line.Goals as goal

pub bounds-lines-at-2 : goal.bounds-lines-at-2
bounds-lines-at-2 c = simp length-set (omega arith)

pub bounds-lines-at-3 : goal.bounds-lines-at-3
bounds-lines-at-3 c = simp length-set (omega arith)

pub bounds-lines-at-4 : goal.bounds-lines-at-4
bounds-lines-at-4 c = simp length-set (omega arith)

pub bounds-lines-at-5 : goal.bounds-lines-at-5
bounds-lines-at-5 c = simp length-set (omega arith)

pub returns : goal.returns
returns c = search row-stored
