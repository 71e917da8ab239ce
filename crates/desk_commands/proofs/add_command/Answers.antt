-- `add_command` meets its contract. Assumes nothing.
use mathlib.Core.Path.{◌∙◌}
use Rattle.desk_commands.proofs.Exits.{is_addition, no_language, no_node, no_section}
use Rattle.desk_commands.proofs.add_command.Goals as goal

pub returns-in_err-node : goal.returns-in_err-node
returns-in_err-node c = c.from_residual.ensures ∙ no_node _ c.field_at.ensures c.in_err-node.was

pub returns-in_err-section : goal.returns-in_err-section
returns-in_err-section c = c.from_residual-in_err-section.ensures ∙ no_section _ c.field_at.ensures _ c.in_ok-node.was c.field_at-2.ensures c.in_err-section.was

pub returns-in_err-language : goal.returns-in_err-language
returns-in_err-language c =
    c.from_residual-in_err-language.ensures
    ∙ no_language _ c.field_at.ensures _ c.in_ok-node.was c.field_at-2.ensures _ c.in_ok-section.was c.field_at-3.ensures c.in_err-language.was

pub returns : goal.returns
returns c =
    is_addition _ c.field_at.ensures _ c.in_ok-node.was c.field_at-2.ensures _ c.in_ok-section.was c.field_at-3.ensures _ c.in_ok-language.was
