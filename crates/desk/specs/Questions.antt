-- The release desk's questions: what each prints of a book. Assumes nothing.
use Rattle.std.specs.Prelude.{ℕ, List, drop, Option, Some, None}
use Rattle.numbers.specs.Refusals.{no_book}
use Rattle.book.specs.declared.Counts.{Counts}
use Rattle.book.specs.Books.{Book}
use Rattle.book.specs.Layout.{Buffers}
use Rattle.book.specs.View.{book_of}
use Rattle.printing.specs.Printing.{refused_answer}
use Rattle.desk_commands.specs.declared.Question.{Question}
use Rattle.desk_commands.specs.declared.Question.TheVariants as question
use Rattle.desk_commands.specs.declared.Shown.{Shown}
use Rattle.desk_commands.specs.declared.Shown.TheVariants as shown
use Rattle.printing_book.specs.Shown.{counts_shown, dump_shown, lines_shown}
use Rattle.printing_why.specs.Whys.{why_answered}
use Rattle.desk.specs.Answers.{Step, telling}
use Rattle.desk.specs.Asked.{asked}

-- ---- what is shown of a book; where there is none it is refused 14
abbrev pub of_book : Option Book → (Book → List ℕ) → List ℕ
of_book None show = refused_answer no_book
of_book (Some w) show = show w

-- of the book v of the counts c and the buffers b
unfoldable pub book_shown : Counts → Buffers → Shown → Book → List ℕ
book_shown c b shown.Counts v = counts_shown c
book_shown c b shown.Lines v = lines_shown 0 v.lines
book_shown c b shown.Dump v = dump_shown c b

-- of the book that the buffers hold
abbrev pub held_shown : Counts → Buffers → Shown → List ℕ
held_shown c b x = book_shown c b x (book_of c b)

-- ---- what a question of the line l prints, on the book w of the counts c and the buffers b, which the text s was opened as
unfoldable pub question_told : List ℕ → Counts → Buffers → Option Book → List ℕ → Question → List ℕ
question_told s c b w l (question.Ask at) = asked c.kind w (drop at l)
question_told s c b w l (question.Why at) = why_answered s w (drop at l)
question_told s c b w l (question.Show x) = of_book w (book_shown c b x)

-- it changes nothing
unfoldable pub question_step : List ℕ → Counts → Buffers → Option Book → List ℕ → Question → Step
question_step s c b w l q = telling c b (question_told s c b w l q)
