-- Room for a line more and for an edit more, by the counts of what is there: as numbers, and where there is none. Assumes nothing.
use Prim.Native.Nat.{ℕ, ◌+◌, ◌*◌, ◌≤◌, ◌<◌}
use mathlib.Core.Path.{◌≡◌, sym, ap, ◌∙◌}
use mathlib.Core.List.{List}
use mathlib.Core.Bool.{true, false, true≢false}
use native.Mathlib.Omega.{arith}
use borrow.Author.Tests.{le-leb, leb-true, lt-ltb}
use lib.ListN.{length}
use Rattle.numbers.specs.Limits.{line_limit}
use Rattle.lists.proofs.Tests.{both, fails}
use Rattle.packing.specs.Tables.{packed}
use Rattle.book.specs.Books.{Edit, Line}
use Rattle.book.specs.Layout.{Buffers, line_form, line_width}
use Rattle.book_rooms.specs.Rooms.{edit_room, edit_row, fits_row, line_room, pool_room}
use Rattle.book_rooms.proofs.Rows.{row_number, row_within}

-- room in l and q for the row of line n and for k bytes from p on
pub record LineRoom (n p : ℕ) (l q : List ℕ) (k : ℕ) : Type 0 where
  pub number : n < line_limit
  pub row : line_width * (n + 1) ≤ length l
  pub pool : p + k ≤ pool_room q

module _ (b : Buffers) (xs : List Line) (n p : ℕ) (c : n ≡ length xs) (t : p ≡ length (packed line_form xs)) (bs : List ℕ) where
  pub room_is : line_room b xs bs ≡ true → LineRoom n p b.lines b.pool (length bs)
  unfolding line_room
  room_is r =
      let x = both (fits_row b.lines (length xs)) _ r in
      record {
        number = rw c (row_number b.lines (length xs) x.0);
        row = rw c (row_within b.lines (length xs) x.0);
        pool = rw t (leb-true _ _ x.1);
      }

  pub is_room : LineRoom n p b.lines b.pool (length bs) → line_room b xs bs ≡ true
  unfolding line_room
  is_room r =
      rw (
        ← c,
        ← t,
        lt-ltb n line_limit r.number,
        le-leb (line_width * (n + 1)) (length b.lines) r.row,
      )
      (le-leb (p + length bs) (pool_room b.pool) r.pool)

  -- no row is left, or not that much of the pool
  pub no_row : fits_row b.lines n ≡ false → line_room b xs bs ≡ false
  no_row f =
      fails (λ e.
      let r = room_is e in
      absurd (true≢false (sym (rw (lt-ltb n line_limit r.number) (le-leb (line_width * (n + 1)) (length b.lines) r.row)) ∙ f)))

  pub no_pool : pool_room b.pool < p + length bs → line_room b xs bs ≡ false
  no_pool h = fails (λ e. let r = room_is e in omega arith)

pub edit_room_is : (b : Buffers) (es : List Edit) (n : ℕ) → n ≡ length es → edit_room b es ≡ edit_row b.journal n
unfolding edit_room
edit_room_is b es n c = ap (edit_row b.journal) (sym c)
