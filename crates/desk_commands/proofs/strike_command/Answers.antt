-- `strike_command` meets its contract. Assumes nothing.
use mathlib.Core.Path.{◌∙◌}
use Rattle.desk_commands.proofs.Exits.{is_striking, more_behind, no_line}
use Rattle.desk_commands.proofs.strike_command.Goals as goal

pub returns-in_err-number : goal.returns-in_err-number
returns-in_err-number c = c.from_residual.ensures ∙ no_line _ c.number_at.ensures c.in_err-number.was

pub returns-then-number-line : goal.returns-then-number-line
returns-then-number-line c = more_behind _ c.number_at.ensures _ c.in_ok-number.was c.if-number-line.true

pub returns : goal.returns
returns c = is_striking _ c.number_at.ensures _ c.in_ok-number.was c.if-number-line.false
