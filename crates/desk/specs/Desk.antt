-- The release desk: what a line of its input prints on a trial book, and what it leaves. Assumes nothing.
use Rattle.std.specs.Prelude.{ℕ, ◌+◌, ◌≡◌, List, [], ◌∷◌, Bool, true, false, cond, leb, length, Option, Some, None}
use Rattle.numbers.specs.Refusals.{no_room}
use Rattle.numbers.specs.Signs.{line_feed, question}
use Rattle.lists.specs.Front.{front}
use Rattle.book.specs.declared.Counts.{Counts}
use Rattle.book.specs.Books.{Book}
use Rattle.book.specs.Layout.{Buffers}
use Rattle.book.specs.View.{view}
use Rattle.desk_commands.specs.declared.Command.{Command}
use Rattle.desk_commands.specs.declared.Command.TheVariants as command
use Rattle.desk_commands.specs.Commands.{command_of}
use Rattle.printing_book.specs.Shown.{shown_room}
use Rattle.desk.specs.declared.answering.Ran.{Ran}
use Rattle.desk.specs.Answers.{Step, ran}
use Rattle.desk.specs.Edits.{edit_step}
use Rattle.desk.specs.Questions.{question_step}

-- `?`, for what is no command
abbrev pub unknown_printed : List ℕ
unknown_printed = question ∷ line_feed ∷ []

-- a command of the line l, on the book w of the counts c and the buffers b, which the text s was opened as
unfoldable pub step : List ℕ → Counts → Buffers → Option Book → List ℕ → Option Command → Step
step s c b w l (Some (command.Edits e)) = edit_step c b w l e
step s c b w l (Some (command.Asks q)) = question_step s c b w l q
step s c b w l None = record { printed = unknown_printed; counts = c; left = b; known = false }

unfoldable pub line_step : List ℕ → Counts → Buffers → List ℕ → Step
line_step s c b l = step s c b (view c b) l (command_of l)

-- ---- in a lent buffer: where what is printed might not fit, nothing is done, and 8 is answered
abbrev pub not_run : Counts → Ran
not_run c = record { counts = c; length = 0; known = true; refusal = no_room }

abbrev pub room_for : Counts → ℕ → ℕ → Bool
room_for c n room = leb (shown_room c + n) room

unfoldable pub has_room : Counts → List ℕ → List ℕ → Bool
has_room c l out = room_for c (length l) (length out)

-- what the desk makes of a line, in counts, buffers and `out` as they are lent
unfoldable pub line_ran : List ℕ → Counts → Buffers → List ℕ → List ℕ → Ran
line_ran s c b l out = cond (has_room c l out) (ran (line_step s c b l)) (not_run c)

unfoldable pub line_printed : List ℕ → Counts → Buffers → List ℕ → List ℕ → List ℕ
line_printed s c b l out = cond (has_room c l out) (front (line_step s c b l).printed out) out

unfoldable pub line_leaves : List ℕ → Counts → Buffers → List ℕ → List ℕ → Buffers
line_leaves s c b l out = cond (has_room c l out) (line_step s c b l).left b

-- the line l is answered with r, and `out` and the buffers are out' and b' then
abbrev pub RunsLine : List ℕ → Counts → Buffers → List ℕ → List ℕ → Ran → List ℕ → Buffers → Type 0
RunsLine s c b l out r out' b' = (r ≡ line_ran s c b l out) × (out' ≡ line_printed s c b l out) × (b' ≡ line_leaves s c b l out)
