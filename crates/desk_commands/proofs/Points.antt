-- Lines and the commands that they are, by computing. Assumes nothing.
use Prim.Native.String.{String}
use mathlib.Core.Path.{◌≡◌, refl}
use mathlib.Core.List.{List, [], ◌∷◌, map}
use mathlib.Core.Bool.{true, false}
use Rattle.std.specs.Prelude.{Option, Some, None}
use Rattle.lists.specs.Same.{same}
use Rattle.lists.specs.Texts.{codes}
use Rattle.desk_commands.specs.Parts.{digit, digits, number_at, number_of, worth}
use Rattle.desk_commands.specs.declared.Command.{Command}
use Rattle.desk_commands.specs.declared.Command.TheVariants as command
use Rattle.desk_commands.specs.declared.Edit.TheVariants as edit
use Rattle.desk_commands.specs.declared.Question.TheVariants as question
use Rattle.desk_commands.specs.declared.Shown.TheVariants as shown
use Rattle.reading_tokens.specs.Tokens.{begins}
use Rattle.desk_commands.specs.Commands.{add_command, command_of, field_at, question_of, strike_command}

abbrev points : List (String × Option Command)
points =
    ("add 0 0 0 ", Some (command.Edits (edit.Add 0 0 0 10)))
    ∷ ("add 0 0 0", None)
    ∷ ("add 1 02 9 *a", Some (command.Edits (edit.Add 1 2 9 11)))
    ∷ ("add 4294967295 1 1 x y", Some (command.Edits (edit.Add 4294967295 1 1 19)))
    ∷ ("add 4294967296 0 0 x", None)
    ∷ ("add 0  0 0 x", None)
    ∷ ("add -1 0 0 x", None)
    ∷ ("strike 007", Some (command.Edits (edit.Strike 7)))
    ∷ ("strike 99999999999999999999999999", None)
    ∷ ("strike", None)
    ∷ ("strike ", None)
    ∷ ("strike 1 ", None)
    ∷ ("undo", Some (command.Edits edit.Undo))
    ∷ ("undo ", None)
    ∷ ("settle", Some (command.Edits edit.Settle))
    ∷ ("symbol ", Some (command.Edits (edit.Symbol 7 false)))
    ∷ ("symbol", None)
    ∷ ("symbol! f", Some (command.Edits (edit.Symbol 8 true)))
    ∷ ("symbol!f", None)
    ∷ ("ask a@b", Some (command.Asks (question.Ask 4)))
    ∷ ("ask", None)
    ∷ ("why a@b", Some (command.Asks (question.Why 4)))
    ∷ ("why ", Some (command.Asks (question.Why 4)))
    ∷ ("why", None)
    ∷ ("whya", None)
    ∷ ("counts", Some (command.Asks (question.Show shown.Counts)))
    ∷ ("lines", Some (command.Asks (question.Show shown.Lines)))
    ∷ ("dump", Some (command.Asks (question.Show shown.Dump)))
    ∷ ("dumps", None)
    ∷ ("", None)
    ∷ []

lines-read : map (λ (p : String × Option Command). command_of (codes p.0)) points ≡ map (λ (p : String × Option Command). p.1) points
unfolding command_of question_of add_command strike_command field_at number_at number_of digits digit worth begins same codes
lines-read = refl
