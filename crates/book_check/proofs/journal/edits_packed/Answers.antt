-- `edits_packed` meets its contract. Assumes nothing.
use Rattle.book_check.proofs.JournalChecks.{edits-short, edits_left}
use Rattle.book_check.proofs.journal.edits_packed.Goals as goal

pub returns-then-journal-n : goal.returns-then-journal-n
returns-then-journal-n c = search edits-short

pub returns : goal.returns
returns c = search edits_left
