-- `has_star` meets its contract. The loop's invariant: the lines from i on decide. Assumes nothing.
use Rattle.book_check.proofs.LineRows.{Starring}
use Rattle.book_check.proofs.lines.has_star.Given as goal

abbrev pub invariant-loop-i : goal.invariant-loop-i
invariant-loop-i l = Starring l.lines l.pool l.n l.i l.at
