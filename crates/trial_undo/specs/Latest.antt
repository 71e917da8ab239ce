-- The latest edit of a book in lent buffers, and what is left of them when it is taken back: "undo takes back the latest edit not yet undone, and an undone
-- add's number is given again". c are the book's counts, l its lines' rows, p its pool, j its journal. Assumes nothing.
use Rattle.std.specs.Prelude.{ℕ, ◌+◌, ◌-◌, ◌*◌, ◌≤◌, ◌≡◌, List, cond, eqb, length, get_or, set}
use Rattle.std.proofs.Math.Seq.{paste}
use Rattle.packing.specs.Padding.{zeros}
use Rattle.book.specs.declared.Counts.{Counts}
use Rattle.book.specs.Books.{add}
use Rattle.book.specs.Layout.{counts_with, edit_width, line_width, struck_mark}
use Rattle.trial.specs.Clearing.{emptied}

-- "journal (u32, two per edit: 1 add or 2 strike; line)": the two numbers of the latest
abbrev pub what_told : Counts → List ℕ → ℕ
what_told c j = get_or j (edit_width * (c.edits - 1)) 0

abbrev pub line_told : Counts → List ℕ → ℕ
line_told c j = get_or j (edit_width * (c.edits - 1) + 1) 0

-- of line i, where its bytes start, and its code
abbrev pub start_of : List ℕ → ℕ → ℕ
start_of l i = get_or l (line_width * i + 2) 0

abbrev pub code_told : List ℕ → ℕ → ℕ
code_told l i = get_or l (line_width * i + 1) 0

-- the counts: an add's line goes with its bytes
unfoldable pub counts_back : Counts → List ℕ → List ℕ → Counts
counts_back c l j =
    cond (eqb (what_told c j) add)
    (counts_with c (c.lines - 1) (start_of l (line_told c j)) (c.edits - 1))
    (counts_with c c.lines c.pool (c.edits - 1))

-- the rows: an add's is zero; of a struck line's code what was added ("32 is added to a struck line's code") is taken off again
abbrev pub row_back : List ℕ → ℕ → List ℕ
row_back l i = paste l (line_width * i) (zeros line_width) line_width

abbrev pub unstruck : List ℕ → ℕ → List ℕ
unstruck l i = set l (line_width * i + 1) (code_told l i - struck_mark)

unfoldable pub lines_back : Counts → List ℕ → List ℕ → List ℕ
lines_back c l j = cond (eqb (what_told c j) add) (row_back l (line_told c j)) (unstruck l (line_told c j))

-- the pool: an add's bytes are zero
unfoldable pub pool_back : Counts → List ℕ → List ℕ → List ℕ → List ℕ
pool_back c l p j = cond (eqb (what_told c j) add) (emptied p (start_of l (line_told c j)) c.pool) p

-- the journal: the edit's row is zero
unfoldable pub journal_back : Counts → List ℕ → List ℕ
journal_back c j = paste j (edit_width * (c.edits - 1)) (zeros edit_width) edit_width

-- what a book with an edit gives: the edit has its row, an add is of a line whose bytes start in the pool, and a strike of a line that is struck
pub record Undoable (c : Counts) (l p j : List ℕ) : Type 0 where
  pub some_edit : 1 ≤ c.edits
  pub row : edit_width * (c.edits - 1) + edit_width ≤ length j
  pub of_add : what_told c j ≡ add
      → (line_width * line_told c j + line_width ≤ length l) × (start_of l (line_told c j) ≤ c.pool) × (c.pool ≤ length p) × (1 ≤ c.lines)
  pub of_strike : (what_told c j ≡ add → ⊥)
      → (line_width * line_told c j + line_width ≤ length l) × (struck_mark ≤ code_told l (line_told c j))
