-- `all_stand` meets its contract. The loop's invariant: the lines from i on decide. Assumes nothing.
use Rattle.book_check.proofs.JournalChecks.{Standing}
use Rattle.book_check.proofs.journal.all_stand.Given as goal

abbrev pub invariant-loop-i : goal.invariant-loop-i
invariant-loop-i l = Standing l.lines l.pool l.back l.n l.i
