-- `question_of` meets its contract. Assumes nothing.
use Rattle.lists.specs.Texts.{codes}
use Rattle.desk_commands.proofs.Exits.{is_ask, is_counts, is_dump, is_lines, is_unknown, is_why}
use Rattle.desk_commands.proofs.question_of.Goals as goal

pub returns-then-starts_with : goal.returns-then-starts_with
unfolding codes
returns-then-starts_with c = search is_ask

pub returns-then-starts_with-2 : goal.returns-then-starts_with-2
unfolding codes
returns-then-starts_with-2 c = search is_why

pub returns-then-eq : goal.returns-then-eq
unfolding codes
returns-then-eq c = search is_counts

pub returns-then-eq-2 : goal.returns-then-eq-2
unfolding codes
returns-then-eq-2 c = search is_lines

pub returns-then-eq-3 : goal.returns-then-eq-3
unfolding codes
returns-then-eq-3 c = search is_dump

pub returns : goal.returns
unfolding codes
returns c = search is_unknown
