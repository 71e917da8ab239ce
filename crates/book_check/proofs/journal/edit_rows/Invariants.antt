-- `edit_rows` meets its contract. The loop's invariant: the rows from i on decide. Assumes nothing.
use Rattle.book_check.proofs.JournalChecks.{Listed}
use Rattle.book_check.proofs.journal.edit_rows.Given as goal

abbrev pub invariant-loop-i : goal.invariant-loop-i
invariant-loop-i l = Listed l.journal l.n l.i l.at
