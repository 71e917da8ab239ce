-- Known points of document 02, request 02: where a line came from, of the definitions that the code is proved to meet. proofs/OffsetTheorem.antt proves the
-- table. Assumes nothing.
use Rattle.std.specs.Prelude.{ℕ, ◌+◌, ◌<◌, ◌≤◌, ◌≡◌, List, [], ◌∷◌, ◌++◌, Bool, true, false, length, replicate, Option, Some, None}
use Prim.Native.String.{String}
use Rattle.numbers.specs.Limits.{script_limit}
use Rattle.numbers.specs.Marks.{general, global}
use Rattle.numbers.specs.Refusals.{too_long}
use Rattle.numbers.specs.Signs.{opening_brace, space}
use Rattle.lists.specs.Texts.{codes}
use Rattle.packing.specs.Padding.{zeros}
use Rattle.book.specs.Books.{Book, add, regular}
use Rattle.book.specs.Layout.{Buffers, five, row_of_line}
use Rattle.book.specs.View.{view}
use Rattle.book_opening.specs.Opening.{Opening, opens, declined, as_script, left, opening, told}
use Rattle.trial.specs.Changes.{Change, to, no}
use Rattle.trial.specs.Offsets.{offsets}
use Rattle.trial.specs.Symbols.{symbol_asked}
use Rattle.trial.specs.Trial.{add_asked, settle_asked, strike_asked, undo_asked}
use Rattle.known_points.specs.Tables.{opened_list, opened_script, rooms}

-- the offsets of the lines of what is opened
abbrev pub opened_offsets : Opening → List ℕ
opened_offsets (opens w) = offsets w.lines
opened_offsets (declined n p) = []

-- room for node 0 and two nodes with names of a byte each, for three lines with 16 bytes, and for three edits
abbrev small : Buffers
small = rooms 3 2 3 16 3

abbrev script_offsets : String → List ℕ
script_offsets t = opened_offsets (opened_script small t)

abbrev list_offsets : String → List ℕ
list_offsets t = opened_offsets (opened_list small t)

-- ---- "the byte offset of its token in the opened text plus one"
pub record OpenedPoints : Type 0 where
  -- 01's example: lines 0 `haze_*`, 1 `*`, 2 `haze_month`
  pub haze : opened_offsets (opened_script (rooms 3 12 3 16 1) "HAZE_1 { global: haze_*; local: *; };\nHAZE_2 { global: haze_month; } HAZE_1;\n")
      ≡ 18 ∷ 33 ∷ 56 ∷ []
  -- a token right behind the first byte; and tokens that are alike are told apart
  pub earliest : script_offsets "{a;};" ≡ 2 ∷ []
  pub alike : script_offsets "V{a;a;};W{a;};" ≡ 3 ∷ 5 ∷ 11 ∷ []
  -- a quoted token is told by its opening quote
  pub quoted : script_offsets "V { \"a b\"; c; };" ≡ 5 ∷ 12 ∷ []
  -- behind comments and blanks, also where a token has blanks and a comment of its own
  pub comments : script_offsets "# c\nV { /* d */ a /* e */ ;\n\n\tlocal: b; };" ≡ 17 ∷ 38 ∷ []
  -- in an extern block, with its last token up to `}`
  pub block : script_offsets "V { extern \"C++\" { a; b }; c; };" ≡ 20 ∷ 23 ∷ 28 ∷ []
  pub export_list : list_offsets "{ a; global: b; *; };" ≡ 3 ∷ 6 ∷ 17 ∷ []
  -- a token that is trimmed to no bytes has a place too: here the second, a form feed
  pub form_feed : opened_offsets (opening as_script small (codes "V { a; " ++ 12 ∷ codes "; };")) ≡ 5 ∷ 8 ∷ []
  -- the places are those of bytes: é has two
  pub bytes : opened_offsets (opening as_script small (codes "V { " ++ 0xC3 ∷ 0xA9 ∷ codes "; a; };")) ≡ 5 ∷ 9 ∷ []

-- ---- "0 for an added line. It survives strike, undo and settle"
abbrev script_book : Option Book
script_book = view (told (opened_script small "V { a; b; };")).counts (left small (opened_script small "V { a; b; };"))

abbrev list_book : Option Book
list_book = view (told (opened_list small "{ a; };")).counts (left small (opened_list small "{ a; };"))

abbrev then : Change → (Option Book → Change) → Change
then (to w) next = next (Some w)
then (no n) next = no n

abbrev edited_offsets : Change → List ℕ
edited_offsets (to w) = offsets w.lines
edited_offsets (no n) = []

abbrev adding : Option Book → Change
adding w = add_asked small w 1 global general (codes "c")

abbrev striking : ℕ → Option Book → Change
striking i w = strike_asked small w i

pub record EditedPoints : Type 0 where
  pub added : edited_offsets (adding script_book) ≡ 5 ∷ 8 ∷ 0 ∷ []
  pub symbol : edited_offsets (symbol_asked small list_book (codes "b;") false) ≡ 3 ∷ 0 ∷ []
  pub symbols : edited_offsets (symbol_asked small list_book (codes "extern \"C\" { b; c; };") false) ≡ 3 ∷ 0 ∷ 0 ∷ []
  pub bare : edited_offsets (symbol_asked small list_book (codes "b") true) ≡ 3 ∷ 0 ∷ []
  pub struck : edited_offsets (striking 0 script_book) ≡ 5 ∷ 8 ∷ []
  pub undone_strike : edited_offsets (then (striking 0 script_book) undo_asked) ≡ 5 ∷ 8 ∷ []
  pub undone_add : edited_offsets (then (adding script_book) undo_asked) ≡ 5 ∷ 8 ∷ []
  pub settled : edited_offsets (then (striking 0 script_book) settle_asked) ≡ 8 ∷ []
  pub settled_none : edited_offsets (settle_asked script_book) ≡ 5 ∷ 8 ∷ []
  pub settled_added : edited_offsets (then (then (adding script_book) (striking 0)) settle_asked) ≡ 8 ∷ 0 ∷ []

-- ---- "14 also covers an offset over 1,048,576"
abbrev held_any : Option Book → Bool
held_any (Some w) = true
held_any None = false

-- what lent buffers hold: node 0 with the Exact line `a`, of that offset, and that journal of so many edits
abbrev lent : ℕ → ℕ → List ℕ → Option Book
lent offset edits journal =
    view (record { kind = regular; nodes = 1; names = 0; lines = 1; pool = 1; edits = edits })
    (five (zeros 3) [] (row_of_line 0 0 0 1 offset) (codes "a") journal)

pub record LentPoints : Type 0 where
  pub zero : held_any (lent 0 0 []) ≡ true
  pub last : held_any (lent 1048576 0 []) ≡ true
  pub over : lent 1048577 0 [] ≡ None
  -- an added line with an offset other than 0 is no 14
  pub added : held_any (lent 7 1 (add ∷ 0 ∷ [])) ≡ true
  pub added_over : lent 1048577 1 (add ∷ 0 ∷ []) ≡ None
  -- nor are two lines of one offset, or offsets that fall
  pub any_order :
      held_any
      (view (record { kind = regular; nodes = 1; names = 0; lines = 3; pool = 3; edits = 0 })
      (five (zeros 3) [] (row_of_line 0 0 0 1 9 ++ (row_of_line 0 0 1 1 4 ++ row_of_line 0 0 2 1 4)) (codes "abc") []))
      ≡ true
  -- in a buffer of four numbers there is no row
  pub four :
      view (record { kind = regular; nodes = 1; names = 0; lines = 1; pool = 1; edits = 0 }) (five (zeros 3) [] (0 ∷ 0 ∷ 0 ∷ 1 ∷ []) (codes "a") [])
      ≡ None

-- ---- a script of every length with its one token near the end, `{`, n blanks and `a;};`: of one of 1,048,576 bytes, the longest, the offset is 1,048,573
abbrev pub late_token : ℕ → List ℕ
late_token n = opening_brace ∷ (replicate n space ++ codes "a;};")

abbrev late_opening : ℕ → Opening
late_opening n = opening as_script (rooms 1 0 1 1 0) (late_token n)

pub record LateToken : Type 0 where
  pub long : (n : ℕ) → length (late_token n) ≡ n + 5
  pub opened : (n : ℕ) → n + 5 ≤ script_limit → opened_offsets (late_opening n) ≡ (n + 2) ∷ []
  pub over : (n : ℕ) → script_limit < n + 5 → (told (late_opening n)).refusal ≡ too_long
  pub longest : length (late_token 1048571) ≡ 1048576
  pub last : opened_offsets (late_opening 1048571) ≡ 1048573 ∷ []
  pub one_more : (told (late_opening 1048572)).refusal ≡ too_long

-- the table
pub record OffsetPoints : Type 0 where
  pub opened : OpenedPoints
  pub edited : EditedPoints
  pub lent : LentPoints
  pub late : LateToken
