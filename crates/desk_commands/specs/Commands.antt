-- The commands of the release desk, one a line. A command tells where in its line a token, a text or a name begins. Assumes nothing.
use Rattle.std.specs.Prelude.{ℕ, ◌+◌, List, true, false, cond, eqb, length, get_or, Option, Some, None}
use Rattle.numbers.specs.Signs.{space}
use Rattle.lists.specs.Same.{same}
use Rattle.lists.specs.Texts.{codes}
use Rattle.reading_tokens.specs.Tokens.{begins}
use Rattle.desk_commands.specs.declared.parts.Numeral.{Numeral}
use Rattle.desk_commands.specs.Parts.{number_at}
use Rattle.desk_commands.specs.declared.Command.{Command}
use Rattle.desk_commands.specs.declared.Command.TheVariants as command
use Rattle.desk_commands.specs.declared.Edit.TheVariants as edit
use Rattle.desk_commands.specs.declared.Question.TheVariants as question
use Rattle.desk_commands.specs.declared.Shown.TheVariants as shown

-- the words of the commands that have something behind them
abbrev pub add_word : List ℕ
add_word = codes "add "

abbrev pub strike_word : List ℕ
strike_word = codes "strike "

abbrev pub symbol_word : List ℕ
symbol_word = codes "symbol "

abbrev pub bare_word : List ℕ
bare_word = codes "symbol! "

abbrev pub ask_word : List ℕ
ask_word = codes "ask "

abbrev pub why_word : List ℕ
why_word = codes "why "

abbrev pub on_number : {A : Type 0} → Option Numeral → (ℕ → ℕ → Option A) → Option A
on_number (Some n) on = on n.value n.end
on_number None on = None

abbrev pub on_blank : {A : Type 0} → List ℕ → ℕ → (ℕ → Option A) → Option A
on_blank l p on = cond (eqb (get_or l p 0) space) (on (p + 1)) None

-- a number with a blank behind it, and the place behind that
unfoldable pub field_at : List ℕ → ℕ → Option Numeral
field_at l p = on_number (number_at l p) (λ n q. on_blank l q (λ r. Some (record { value = n; end = r })))

-- `add NODE SECTION LANGUAGE TOKEN`: three numbers; the token is the rest of the line after one blank, and may be empty
unfoldable pub add_command : List ℕ → Option Command
add_command l =
    on_number (field_at l (length add_word)) (λ node q.
    on_number (field_at l q) (λ section s.
    on_number (field_at l s) (λ language at.
    Some (command.Edits (edit.Add node section language at)))))

-- `strike LINE`
unfoldable pub strike_command : List ℕ → Option Command
strike_command l = on_number (number_at l (length strike_word)) (λ line p. cond (eqb p (length l)) (Some (command.Edits (edit.Strike line))) None)

-- ---- a line: one of the eleven commands, or none of them
-- those that change nothing
unfoldable pub question_of : List ℕ → Option Command
question_of l =
    cond (begins ask_word l) (Some (command.Asks (question.Ask (length ask_word))))
    (cond (begins why_word l) (Some (command.Asks (question.Why (length why_word))))
    (cond (same l (codes "counts")) (Some (command.Asks (question.Show shown.Counts)))
    (cond (same l (codes "lines")) (Some (command.Asks (question.Show shown.Lines)))
    (cond (same l (codes "dump")) (Some (command.Asks (question.Show shown.Dump)))
    None))))

unfoldable pub command_of : List ℕ → Option Command
command_of l =
    cond (begins add_word l) (add_command l)
    (cond (begins strike_word l) (strike_command l)
    (cond (same l (codes "undo")) (Some (command.Edits edit.Undo))
    (cond (same l (codes "settle")) (Some (command.Edits edit.Settle))
    (cond (begins symbol_word l) (Some (command.Edits (edit.Symbol (length symbol_word) false)))
    (cond (begins bare_word l) (Some (command.Edits (edit.Symbol (length bare_word) true)))
    (question_of l))))))
