-- How a book stands in lent buffers, as 01 has it under 'The book', and 02 in request 02. Assumes nothing.
use Rattle.std.specs.Prelude.{ℕ, ◌+◌, ◌*◌, ◌/◌, ◌%◌, ◌≤◌, List, [], ◌∷◌, Bool, true, eqb, leb, length, drop, get_or, take}
use Rattle.packing.specs.Padding.{pad}
use Rattle.packing.specs.Tables.{Form, rows, packed}
use Rattle.book.specs.declared.Counts.{Counts}
use Rattle.book.specs.declared.Frame.{Frame}
use Rattle.book.specs.Books.{Node, Line, Edit, Book, frame_with, with_offset}

-- "nodes (u32, three per node: name start, length, parent number or 0), names (bytes)"
abbrev pub node_width : ℕ
node_width = 3

-- the row of node i lies within the nodes, and its name within the names
pub record NodeLies (l m : List ℕ) (i : ℕ) : Type 0 where
  pub within : node_width * i + node_width ≤ length l
  pub room : get_or l (node_width * i) 0 + get_or l (node_width * i + 1) 0 ≤ length m

-- this name
abbrev pub name_of_node : List ℕ → List ℕ → ℕ → List ℕ
name_of_node l m i = take (get_or l (node_width * i + 1) 0) (drop (get_or l (node_width * i) 0) m)

unfoldable pub node_form : Form Node
node_form = record {
  width = node_width;
  row = λ (o : ℕ) (x : Node). o ∷ length x.name ∷ x.parent ∷ [];
  bytes = λ (x : Node). x.name;
  starts = λ (o : ℕ) (l : List ℕ). eqb (get_or l 0 0) o;
  size = λ (l : List ℕ). get_or l 1 0;
  back = λ (l bs : List ℕ). record { name = bs; parent = get_or l 2 0 };
}

-- "lines (u32, … per line: node; class x 4 + section x 2 + language; start; length), pool (bytes)"; "32 is added to a struck line's code"; request 02: "Each
-- line row gets a fifth number"
abbrev pub line_width : ℕ
line_width = 5

abbrev pub struck_mark : ℕ
struck_mark = 32

-- "class x 4 + section x 2 + language"
abbrev pub standing_code : ℕ → ℕ → ℕ → ℕ
standing_code class section language = class * 4 + section * 2 + language

abbrev pub code_of : Line → ℕ
code_of x = standing_code x.class x.section x.language + x.struck * struck_mark

-- a code taken apart
abbrev pub class_in : ℕ → ℕ
class_in code = code % struck_mark / 4

abbrev pub section_in : ℕ → ℕ
section_in code = code % 4 / 2

abbrev pub language_in : ℕ → ℕ
language_in code = code % 2

abbrev pub has_mark : ℕ → Bool
has_mark code = leb struck_mark code

-- the line with that code, and with the offset 0
abbrev pub line_of : ℕ → ℕ → List ℕ → Line
line_of node code bs = record {
  node = node;
  class = class_in code;
  section = section_in code;
  language = language_in code;
  struck = code / struck_mark;
  bytes = bs;
  offset = 0;
}

-- a line's row
abbrev pub row_of_line : ℕ → ℕ → ℕ → ℕ → ℕ → List ℕ
row_of_line node code start size offset = node ∷ code ∷ start ∷ size ∷ offset ∷ []

-- the row of line i lies within the lines, and its bytes within the pool
pub record LineLies (l m : List ℕ) (i : ℕ) : Type 0 where
  pub within : line_width * i + line_width ≤ length l
  pub room : get_or l (line_width * i + 2) 0 + get_or l (line_width * i + 3) 0 ≤ length m

-- these bytes
abbrev pub bytes_of_line : List ℕ → List ℕ → ℕ → List ℕ
bytes_of_line l m i = take (get_or l (line_width * i + 3) 0) (drop (get_or l (line_width * i + 2) 0) m)

unfoldable pub line_form : Form Line
line_form = record {
  width = line_width;
  row = λ (o : ℕ) (x : Line). row_of_line x.node (code_of x) o (length x.bytes) x.offset;
  bytes = λ (x : Line). x.bytes;
  starts = λ (o : ℕ) (l : List ℕ). eqb (get_or l 2 0) o;
  size = λ (l : List ℕ). get_or l 3 0;
  back = λ (l bs : List ℕ). with_offset (get_or l 4 0) (line_of (get_or l 0 0) (get_or l 1 0) bs);
}

-- "journal (u32, two per edit: 1 add or 2 strike; line)": an edit has no bytes
abbrev pub edit_width : ℕ
edit_width = 2

unfoldable pub edit_form : Form Edit
edit_form = record {
  width = edit_width;
  row = λ (o : ℕ) (x : Edit). x.what ∷ x.line ∷ [];
  bytes = λ (x : Edit). [];
  starts = λ (o : ℕ) (l : List ℕ). true;
  size = λ (l : List ℕ). 0;
  back = λ (l bs : List ℕ). record { what = get_or l 0 0; line = get_or l 1 0 };
}

-- the lent buffers, as one thing
pub record Buffers : Type 0 where
  pub nodes : List ℕ
  pub names : List ℕ
  pub lines : List ℕ
  pub pool : List ℕ
  pub journal : List ℕ

abbrev pub five : List ℕ → List ℕ → List ℕ → List ℕ → List ℕ → Buffers
five n m l p j = record { nodes = n; names = m; lines = l; pool = p; journal = j }

-- "Names and line bytes are packed in reading order, so each start is the sum of the lengths before it; the rest is zero": the book in buffers with the
-- rooms of b
unfoldable pub laid_out : Buffers → Book → Buffers
laid_out b w = record {
  nodes = pad (length b.nodes) (rows node_form 0 w.nodes);
  names = pad (length b.names) (packed node_form w.nodes);
  lines = pad (length b.lines) (rows line_form 0 w.lines);
  pool = pad (length b.pool) (packed line_form w.lines);
  journal = pad (length b.journal) (rows edit_form 0 w.edits);
}

-- "The book's counts …: kind, nodes, name bytes, lines, pool bytes, edits."
unfoldable pub counts_of : Book → Counts
counts_of w = record {
  kind = w.kind;
  nodes = length w.nodes;
  names = length (packed node_form w.nodes);
  lines = length w.lines;
  pool = length (packed line_form w.lines);
  edits = length w.edits;
}

-- the frame of a book with those counts
abbrev pub frame_of : Counts → Frame
frame_of c = frame_with c.kind c.nodes

-- the counts of no book: "A refused opening returns zero counts"
abbrev pub no_counts : Counts
no_counts = record { kind = 0; nodes = 0; names = 0; lines = 0; pool = 0; edits = 0 }

-- the counts of the same nodes, with other lines and edits
abbrev pub counts_with : Counts → ℕ → ℕ → ℕ → Counts
counts_with c lines pool edits = record { kind = c.kind; nodes = c.nodes; names = c.names; lines = lines; pool = pool; edits = edits }
