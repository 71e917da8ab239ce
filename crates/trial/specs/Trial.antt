-- The trial book: what add, strike, undo and settle make of a book, as 01 has it under 'The book', in buffers with the rooms of b. What that makes of the
-- lines' offsets: specs/Offsets.antt. Assumes nothing.
use Rattle.std.specs.Prelude.{ℕ, ◌-◌, List, [], ◌∷◌, ◌++◌, Bool, true, false, cond, ◌&&◌, ◌||◌, not, eqb, ltb, get_or, length, take, Option, Some, None}
use Rattle.numbers.specs.Marks.{global, is_language, is_section}
use Rattle.numbers.specs.Refusals.{no_book, no_room, no_such, nothing_to_undo, wrong_kind}
use Rattle.linker_script.specs.Trim.{trim_end}
use Rattle.lists.specs.Each.{every}
use Rattle.classes.specs.Classes.{class_number}
use Rattle.numbers.specs.Saying.{number}
use Rattle.storing.specs.Keeping.{Keep, keep, kept_where}
use Rattle.book.specs.Books.{Book, Edit, Line, add, book_frame, edition_of, export, new_line, no_edits, rust, strike, with_lines}
use Rattle.book.specs.Edits.{line_at, marked_at, stands, take_back}
use Rattle.book.specs.Layout.{Buffers}
use Rattle.book_rooms.specs.Rooms.{edit_room, line_room}
use Rattle.trial.specs.Changes.{Change, to, no}

-- ---- "Add (node, section, language, token) trims and classes the token as in a script, any bytes or none, and appends"
-- "no such node, section, language …; local or node not 0 in an export list" is 11
abbrev pub may_stand_in : ℕ → ℕ → ℕ → ℕ → ℕ → Bool
may_stand_in kind nodes node section language =
    ltb node nodes
    && (is_section section
    && (is_language language
    && (not (eqb kind export) || (eqb section global && eqb node 0))))

unfoldable pub may_stand : Book → ℕ → ℕ → ℕ → Bool
may_stand w node section language = may_stand_in w.kind (length w.nodes) node section language

abbrev pub with_line : Book → Line → Book
with_line w x = record {
  kind = w.kind;
  nodes = w.nodes;
  lines = w.lines ++ x ∷ [];
  edits = w.edits ++ record { what = add; line = length w.lines } ∷ [];
}

unfoldable pub append_kept : Buffers → Book → ℕ → ℕ → ℕ → Keep → Change
append_kept b w node section language x =
    kept_where (λ bs. line_room b w.lines bs && edit_room b w.edits)
    (λ k bs. to (with_line w (new_line node section language (class_number k) bs))) (λ n. no (number n)) x

-- what refuses a token where there is no row for a line or an edit: its own refusal, else 8
abbrev pub unplaced : Keep → ℕ
unplaced x = kept_where (λ bs. false) (λ k bs. 0) number x

-- a trimmed token: "its 1, 5, 6, 8, in this order"
unfoldable pub append : Buffers → Book → ℕ → ℕ → ℕ → List ℕ → Change
append b w node section language t = append_kept b w node section language (keep (edition_of (book_frame w)) t)

-- "Order: 14, 13, 11, 12, 1, …": "add or strike on Rust kind" is 13
unfoldable pub add_asked : Buffers → Option Book → ℕ → ℕ → ℕ → List ℕ → Change
add_asked b None node section language t = no no_book
add_asked b (Some w) node section language t =
    cond (eqb w.kind rust) (no wrong_kind)
    (cond (may_stand w node section language) (append b w node section language (trim_end t))
    (no no_such))

-- ---- "strike marks": "no such … standing line" is 11
abbrev pub with_strike : Book → ℕ → Book
with_strike w i = record {
  kind = w.kind;
  nodes = w.nodes;
  lines = marked_at 1 w.lines i;
  edits = w.edits ++ record { what = strike; line = i } ∷ [];
}

unfoldable pub strike_line : Buffers → Book → ℕ → Change
strike_line b w i =
    cond (ltb i (length w.lines) && stands (line_at w.lines i))
    (cond (edit_room b w.edits) (to (with_strike w i)) (no no_room))
    (no no_such)

unfoldable pub strike_asked : Buffers → Option Book → ℕ → Change
strike_asked b None i = no no_book
strike_asked b (Some w) i = cond (eqb w.kind rust) (no wrong_kind) (strike_line b w i)

-- ---- "undo takes back the latest edit not yet undone, and an undone add's number is given again"
abbrev pub latest : List Edit → Edit
latest es = get_or es (length es - 1) (record { what = 0; line = 0 })

-- the lines without it; those of a book are always such that it can be taken back (14)
unfoldable pub without_latest : Book → Option (List Line) → Change
without_latest w (Some ls) = to (record { kind = w.kind; nodes = w.nodes; lines = ls; edits = take (length w.edits - 1) w.edits })
without_latest w None = no no_book

-- "undo with no edit" is 12
unfoldable pub undo_asked : Option Book → Change
undo_asked None = no no_book
undo_asked (Some w) = cond (no_edits w.edits) (no nothing_to_undo) (without_latest w (take_back (latest w.edits) w.lines))

-- ---- "Settle drops struck lines, packs and renumbers the rest in order, empties the journal; with none struck it changes nothing."
abbrev pub kept_if : Bool → Line → List Line → List Line
kept_if true x xs = x ∷ xs
kept_if false x xs = xs

unfoldable pub standing : List Line → List Line
standing [] = []
standing (x ∷ xs) = kept_if (stands x) x (standing xs)

unfoldable pub settled : Book → Book
settled w = cond (every stands w.lines) w (with_lines w (standing w.lines))

unfoldable pub settle_asked : Option Book → Change
settle_asked None = no no_book
settle_asked (Some w) = to (settled w)
