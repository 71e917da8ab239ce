-- The release desk's edits: what each asks of a trial book, what it prints, and what it leaves. Assumes nothing.
use Rattle.std.specs.Prelude.{ℕ, ◌-◌, List, [], ◌∷◌, ◌++◌, drop, Option, Result, Ok, Err}
use Rattle.numbers.specs.Signs.{line_feed}
use Rattle.lists.specs.Texts.{codes}
use Rattle.book.specs.declared.Counts.{Counts}
use Rattle.book.specs.Books.{Book}
use Rattle.book.specs.Layout.{Buffers}
use Rattle.trial.specs.Changes.{Change}
use Rattle.trial.specs.Symbols.{symbol_asked}
use Rattle.trial.specs.Trial.{add_asked, settle_asked, strike_asked, undo_asked}
use Rattle.printing.specs.Printing.{numbered, refused_answer}
use Rattle.desk_commands.specs.declared.Edit.{Edit}
use Rattle.desk_commands.specs.declared.Edit.TheVariants as edit
use Rattle.desk.specs.Answers.{Step, editing}

-- ---- what an edit of the line l asks of the book w in the buffers b
unfoldable pub edit_asked : Buffers → Option Book → List ℕ → Edit → Change
edit_asked b w l (edit.Add node section language at) = add_asked b w node section language (drop at l)
edit_asked b w l (edit.Strike line) = strike_asked b w line
edit_asked b w l edit.Undo = undo_asked w
edit_asked b w l edit.Settle = settle_asked w
edit_asked b w l (edit.Symbol at bare) = symbol_asked b w (drop at l) bare

-- ---- what is printed for an edit that is done, with the counts c before it and d behind it: `added LINE`; `struck LINE`; `undone`; `settled LINES`, how many
-- are left; `added COUNT`, how many lines were added
unfoldable pub done_said : Counts → Counts → Edit → List ℕ
done_said c d (edit.Add node section language at) = numbered (codes "added") c.lines
done_said c d (edit.Strike line) = numbered (codes "struck") line
done_said c d edit.Undo = codes "undone" ++ line_feed ∷ []
done_said c d edit.Settle = numbered (codes "settled") d.lines
done_said c d (edit.Symbol at bare) = numbered (codes "added") (d.lines - c.lines)

-- what is printed for what an edit answers; a refusal is `! N`
unfoldable pub said : Counts → Edit → Result Counts ℕ → List ℕ
said c e (Ok d) = done_said c d e
said c e (Err n) = refused_answer n

-- ---- an edit of the line l, on the book w of the counts c and the buffers b
unfoldable pub edit_step : Counts → Buffers → Option Book → List ℕ → Edit → Step
edit_step c b w l e = editing c b (said c e) (edit_asked b w l e)
