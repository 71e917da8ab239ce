-- `command_of` meets its contract. Assumes nothing.
use Rattle.lists.specs.Texts.{codes}
use Rattle.desk_commands.proofs.Exits.{is_add, is_bare_symbol, is_question, is_settle, is_strike, is_symbol, is_undo}
use Rattle.desk_commands.proofs.command_of.Goals as goal

pub returns-then-starts_with : goal.returns-then-starts_with
unfolding codes
returns-then-starts_with c = search is_add

pub returns-then-starts_with-2 : goal.returns-then-starts_with-2
unfolding codes
returns-then-starts_with-2 c = search is_strike

pub returns-then-eq : goal.returns-then-eq
unfolding codes
returns-then-eq c = search is_undo

pub returns-then-eq-2 : goal.returns-then-eq-2
unfolding codes
returns-then-eq-2 c = search is_settle

pub returns-then-starts_with-3 : goal.returns-then-starts_with-3
unfolding codes
returns-then-starts_with-3 c = search is_symbol

pub returns-then-starts_with-4 : goal.returns-then-starts_with-4
unfolding codes
returns-then-starts_with-4 c = search is_bare_symbol

pub returns : goal.returns
unfolding codes
returns c = search is_question
