-- A line of a book that is laid out: its row's code, and the mark of a struck line. Assumes nothing.
use Prim.Native.Nat.{ℕ, ◌+◌, ◌*◌, ◌≤◌, ◌<◌}
use mathlib.Core.Path.{◌≡◌}
use mathlib.Core.Bool.{true, false}
use native.Mathlib.Omega.{arith}
use borrow.Author.Tests.{ne_eqb}
use lib.ListN.{length, get_or}
use Rattle.packing.proofs.TableLaws.{every_at}
use Rattle.packing.proofs.Packings.{row_cell}
use Rattle.book.specs.declared.Counts.{Counts}
use Rattle.book.specs.Books.{Book, no_line}
use Rattle.book.specs.Edits.{line_at, stands}
use Rattle.book.specs.Layout.{Buffers, code_of, frame_of, line_form, line_width, struck_mark}
use Rattle.book.specs.Sanity.{line_ok}
use Rattle.book.proofs.Forms.{Ranged, line_laws, ranged}
use Rattle.book.proofs.LineRows.{line-in_range}
use Rattle.book.proofs.Views.{Layout}

-- the numbers of line i
module _ {c : Counts} {b : Buffers} {w : Book} (t : Layout c b w) (i : ℕ) (h : i < c.lines) where
  pub line-within : i < length w.lines
  line-within = omega (arith, t.lines.count)

  pub line_code : get_or b.lines (line_width * i + 1) 0 ≡ code_of (line_at w.lines i)
  unfolding line_form
  line_code = row_cell (line_laws (frame_of c)) t.lines i no_line line-within 1 (omega arith)

  pub line-right : line_ok (frame_of c) (line_at w.lines i) ≡ true
  line-right = every_at (line_ok (frame_of c)) w.lines i no_line t.lines.all line-within

  pub line_ranged : Ranged c.nodes (line_at w.lines i)
  line_ranged = ranged c.nodes _ (line-in_range (frame_of c) _ line-right)

  pub line_room : line_width * i + line_width ≤ length b.lines
  unfolding line_form
  line_room = omega (arith, t.lines.rowroom)

  -- "32 is added to a struck line's code"
  pub code-struck : struck_mark ≤ get_or b.lines (line_width * i + 1) 0 → stands (line_at w.lines i) ≡ false
  code-struck g =
      let r = line_ranged in
      let z : (line_at w.lines i).struck ≡ 0 → ⊥ = λ s. omega (arith, line_code, r.class, r.section, r.language, s, g) in
      ne_eqb _ _ z

  pub code-stands : get_or b.lines (line_width * i + 1) 0 < struck_mark → (line_at w.lines i).struck ≡ 0
  code-stands g = omega (arith, line_code, g)
