-- `line_rows` meets its contract. The loop's invariant: row i starts at `at` and its bytes at o, and the rows from i on decide. Assumes nothing.
use Rattle.book_check.proofs.LineRows.{Lined}
use Rattle.book_check.proofs.lines.line_rows.Given as goal

abbrev pub invariant-loop-i : goal.invariant-loop-i
invariant-loop-i l = Lined l.frame l.lines l.pool l.n l.p l.i l.at l.o
