-- `show` meets its contract. Assumes nothing.
use Rattle.desk.specs.Questions.{book_shown}
use Rattle.desk.proofs.questions.show.Goals as goal

pub returns-in-Counts : goal.returns-in-Counts
unfolding book_shown
returns-in-Counts c = rw c.in-Counts.is c.show_counts.ensures

pub returns-in-Lines : goal.returns-in-Lines
unfolding book_shown
returns-in-Lines c = rw c.in-Lines.is c.show_lines.ensures

pub returns-in-Dump : goal.returns-in-Dump
unfolding book_shown
returns-in-Dump c = rw c.in-Dump.is c.show_dump.ensures
