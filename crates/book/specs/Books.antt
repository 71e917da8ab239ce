-- The book, apart from any buffer: its kind, its nodes, its lines, and the edits that its journal holds. Assumes nothing.
use Rattle.std.specs.Prelude.{ℕ, ◌+◌, List, [], ◌∷◌, Bool, cond, eqb, length, Option, Some, None}
use Rattle.numbers.specs.Marks.{general, global}
use Rattle.lists.specs.Same.{same}
use Rattle.numbers.specs.declared.Edition.{Edition}
use Rattle.numbers.specs.declared.Edition.TheVariants.{Reld}
use Rattle.book.specs.declared.Frame.{Frame}

-- the kinds of a book, by number: a Regular version script, one of the Rust kind, an export list
abbrev pub regular : ℕ
regular = 0

abbrev pub rust : ℕ
rust = 1

abbrev pub export : ℕ
export = 2

-- a node: its name, and its parent's number or 0
pub record Node : Type 0 where
  pub name : List ℕ
  pub parent : ℕ

-- a line: its node, class, section and language, 1 where it is struck, its bytes as they are stored, and its offset: where it came from, or 0
pub record Line : Type 0 where
  pub node : ℕ
  pub class : ℕ
  pub section : ℕ
  pub language : ℕ
  pub struck : ℕ
  pub bytes : List ℕ
  pub offset : ℕ

-- a line that stands, with the offset of an added one: "0 for an added line"
abbrev pub new_line : ℕ → ℕ → ℕ → ℕ → List ℕ → Line
new_line node section language class bs = record {
  node = node;
  class = class;
  section = section;
  language = language;
  struck = 0;
  bytes = bs;
  offset = 0;
}

-- a line of an opening: "the byte offset of its token in the opened text plus one", of a token that starts at the place p. An opening quote is part of it
abbrev pub offset_at : ℕ → ℕ
offset_at p = p + 1

-- the line with another offset
abbrev pub with_offset : ℕ → Line → Line
with_offset k x = record {
  node = x.node;
  class = x.class;
  section = x.section;
  language = x.language;
  struck = x.struck;
  bytes = x.bytes;
  offset = k;
}

-- an edit: "1 add or 2 strike; line"
pub record Edit : Type 0 where
  pub what : ℕ
  pub line : ℕ

abbrev pub add : ℕ
add = 1

abbrev pub strike : ℕ
strike = 2

pub record Book : Type 0 where
  pub kind : ℕ
  pub nodes : List Node
  pub lines : List Line
  pub edits : List Edit

-- the book with those lines, and without an edit
abbrev pub with_lines : Book → List Line → Book
with_lines w ls = record { kind = w.kind; nodes = w.nodes; lines = ls; edits = [] }

abbrev pub no_edits : List Edit → Bool
no_edits es = eqb (length es) 0

-- ---- what a book's lines are read and ranked by: its kind, and how many nodes it has
abbrev pub frame_with : ℕ → ℕ → Frame
frame_with kind nodes = record { kind = kind; nodes = nodes }

abbrev pub book_frame : Book → Frame
book_frame w = frame_with w.kind (length w.nodes)

-- how its patterns are read. There is one way today
abbrev pub edition_of : Frame → Edition
edition_of f = Reld

-- what stands for a node or a line past the last
abbrev pub no_node : Node
no_node = record { name = []; parent = 0 }

abbrev pub no_line : Line
no_line = new_line 0 global general 0 []

-- the number of the first node with that name, among nodes that are numbered from i on
unfoldable pub first_named : List Node → ℕ → List ℕ → Option ℕ
first_named [] i t = None
first_named (x ∷ xs) i t = cond (same x.name t) (Some i) (first_named xs (i + 1) t)

-- as it is answered
abbrev pub found : Option ℕ → Option ℕ
found (Some i) = Some i
found None = None
