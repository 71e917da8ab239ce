-- `show_lines` meets its contract. The loop's invariant: the lines before `i` stand. Assumes nothing.
use Rattle.printing_book.proofs.ShownLines.{Listed}
use Rattle.printing_book.proofs.lines.show_lines.Given as goal

abbrev pub invariant-loop-i : goal.invariant-loop-i
invariant-loop-i l = Listed l.fn.book.lent.counts l.lent.lines.now l.lent.pool.now l.initial.out l.out l.end l.i
