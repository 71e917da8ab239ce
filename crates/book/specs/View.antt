-- The book that lent buffers and counts hold, or none: "a book not laid out as above" is 14. Assumes nothing.
use Rattle.std.specs.Prelude.{◌*◌, ◌≤◌, ◌≡◌, [], Bool, true, cond, ◌&&◌, leb, length, Option, Some, None}
use Rattle.numbers.specs.Limits.{edit_limit, line_limit, node_limit, pool_limit}
use Rattle.lists.specs.Each.{every}
use Rattle.packing.specs.Tables.{packed, packs, things}
use Rattle.book.specs.declared.Counts.{Counts}
use Rattle.book.specs.Books.{Node, Book, book_frame}
use Rattle.book.specs.Layout.{node_form, node_width, line_form, line_width, edit_form, edit_width, Buffers, frame_of}
use Rattle.book.specs.Sanity.{edit_ok, line_ok, sane}

-- "a count over its … limit": names have none of their own
unfoldable pub within_limits : Counts → Bool
within_limits c = leb c.nodes node_limit && (leb c.lines line_limit && (leb c.pool pool_limit && leb c.edits edit_limit))

abbrev pub any_node : Node → Bool
any_node x = true

-- "a count over its room …, a field out of range, a gap, a stored glob …, a nonzero rest"
unfoldable pub laid : Counts → Buffers → Bool
laid c b =
    within_limits c
    && (packs node_form any_node c.nodes c.names b.nodes b.names
    && (packs line_form (line_ok (frame_of c)) c.lines c.pool b.lines b.pool
    && packs edit_form edit_ok c.edits 0 b.journal []))

-- the book that they would hold
unfoldable pub book_of : Counts → Buffers → Book
book_of c b = record {
  kind = c.kind;
  nodes = things node_form c.nodes b.nodes b.names;
  lines = things line_form c.lines b.lines b.pool;
  edits = things edit_form c.edits b.journal [];
}

-- whether they hold one
unfoldable pub holds : Counts → Buffers → Bool
holds c b = laid c b && sane (book_of c b)

unfoldable pub view : Counts → Buffers → Option Book
view c b = cond (holds c b) (Some (book_of c b)) None

-- a book that has room in buffers like b and is within the limits, each of its lines and edits as `laid` asks
pub record Fits (b : Buffers) (w : Book) : Type 0 where
  pub node_room : node_width * length w.nodes ≤ length b.nodes
  pub name_room : length (packed node_form w.nodes) ≤ length b.names
  pub line_room : line_width * length w.lines ≤ length b.lines
  pub pool_room : length (packed line_form w.lines) ≤ length b.pool
  pub edit_room : edit_width * length w.edits ≤ length b.journal
  pub few_nodes : length w.nodes ≤ node_limit
  pub few_lines : length w.lines ≤ line_limit
  pub few_bytes : length (packed line_form w.lines) ≤ pool_limit
  pub few_edits : length w.edits ≤ edit_limit
  pub lines_ok : every (line_ok (book_frame w)) w.lines ≡ true
  pub edits_ok : every edit_ok w.edits ≡ true
