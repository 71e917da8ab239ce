-- `journal_fits_with` meets its contract. The loop's invariant: the t edits that are left, from the lines as they are now, decide. Assumes nothing.
use mathlib.Core.Path.{◌≡◌}
use lib.ListN.{length}
use Rattle.book_check.proofs.JournalChecks.{Backward}
use Rattle.book_check.proofs.journal.journal_fits_with.Given as goal

abbrev pub invariant-loop-s : goal.invariant-loop-s
invariant-loop-s l = (length l.back ≡ length l.initial.back) × Backward l.lines l.pool l.journal l.n l.e l.back l.m l.s
