-- Rows of a width, by how many numbers there are; and what a line or an edit that has a row gives. Assumes nothing.
use Prim.Native.Nat.{ℕ, ◌+◌, ◌*◌, ◌/◌, ◌≤◌, ◌<◌}
use mathlib.Core.Path.{◌≡◌, sym, ◌∙◌}
use mathlib.Core.List.{List}
use mathlib.Core.Bool.{true}
use native.Mathlib.Decide.{dec_le}
use native.Mathlib.Nat.{div-lt_iff_lt-mul, le-div_iff_mul-le, mul_comm}
use native.Mathlib.Omega.{arith}
use borrow.Author.Tests.{le-leb, le-ltb, leb-true, lt-leb, lt-ltb, ltb-true}
use lib.Dec.{leb, ltb}
use lib.ListN.{length}
use Rattle.numbers.specs.Limits.{edit_limit, line_limit}
use Rattle.lists.proofs.Tests.{both}
use Rattle.book.specs.Layout.{edit_width, line_width}
use Rattle.book_rooms.specs.Rooms.{edit_row, fits_row}

-- whether there is a row i of w numbers among k, by the whole rows that they are
pub row_told : (w i k : ℕ) → 0 < w → ltb i (k / w) ≡ leb (w * (i + 1)) k
row_told w i k z = rw (mul_comm w (i + 1)) (go (dec_le ((i + 1) * w) k))
  where
    go : Dec ((i + 1) * w ≤ k) → ltb i (k / w) ≡ leb ((i + 1) * w) k
    go (yes h) =
        let j : i + 1 ≤ k / w = (le-div_iff_mul-le z).1 h in
        lt-ltb i (k / w) (omega arith) ∙ sym (le-leb ((i + 1) * w) k h)
    go (no h) =
        let j : k / w < i + 1 = (div-lt_iff_lt-mul z).1 (omega arith) in
        le-ltb i (k / w) (omega arith) ∙ sym (lt-leb ((i + 1) * w) k (omega arith))

-- a line that has a row
pub row_number : (l : List ℕ) (i : ℕ) → fits_row l i ≡ true → i < line_limit
row_number l i e = ltb-true i line_limit (both (ltb i line_limit) _ e).0

pub row_within : (l : List ℕ) (i : ℕ) → fits_row l i ≡ true → line_width * (i + 1) ≤ length l
row_within l i e = leb-true (line_width * (i + 1)) (length l) (both (ltb i line_limit) _ e).1

-- an edit that has one
pub edit_refusal : (j : List ℕ) (i : ℕ) → edit_row j i ≡ true → i < edit_limit
edit_refusal j i e = ltb-true i edit_limit (both (ltb i edit_limit) _ e).0

pub edit_within : (j : List ℕ) (i : ℕ) → edit_row j i ≡ true → edit_width * (i + 1) ≤ length j
edit_within j i e = leb-true (edit_width * (i + 1)) (length j) (both (ltb i edit_limit) _ e).1
