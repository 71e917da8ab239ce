-- `field_at` meets its contract. Assumes nothing.
use mathlib.Core.Path.{◌∙◌}
use Rattle.desk_commands.proofs.Exits.{is_field, no_blank, no_field}
use Rattle.desk_commands.proofs.field_at.Goals as goal

pub returns-in_err-number : goal.returns-in_err-number
returns-in_err-number c = c.from_residual.ensures ∙ no_field _ _ c.number_at.ensures c.in_err-number.was

pub returns-then-byte_at-ne32 : goal.returns-then-byte_at-ne32
returns-then-byte_at-ne32 c = no_blank _ _ c.number_at.ensures _ c.in_ok-number.was c.byte_at.ensures c.if-byte_at-ne32.true

pub returns : goal.returns
returns c = is_field _ _ c.number_at.ensures _ c.in_ok-number.was c.byte_at.ensures c.if-byte_at-ne32.false
