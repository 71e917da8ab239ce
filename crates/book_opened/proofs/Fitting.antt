-- The rooms and the limits of a book while its text is read: they hold at the start, and behind each event that asks for room. Assumes nothing.
use Prim.Native.Nat.{ℕ, ◌+◌, ◌*◌, ◌≤◌}
use mathlib.Core.Path.{◌≡◌}
use mathlib.Core.List.{List, [], ◌∷◌, ◌++◌}
use mathlib.Core.Bool.{true}
use native.Mathlib.Omega.{arith}
use borrow.Author.Tests.{leb-true, ltb-true}
use lib.Dec.{ltb}
use lib.ListN.{length, get_or, set, length-append, length-set}
use Rattle.numbers.specs.Limits.{line_limit, node_limit, pool_limit}
use Rattle.lists.proofs.Tests.{both}
use Rattle.packing.specs.Tables.{packed}
use Rattle.packing.proofs.TableLaws.{packed-append, packed-set}
use Rattle.book.specs.Books.{Node, Line, no_node}
use Rattle.book.specs.Layout.{Buffers, line_form, line_width, node_form, node_width}
use Rattle.book_rooms.specs.Rooms.{fits_row, line_room, node_room, pool_room, row_room}
use Rattle.book_rooms.proofs.Putting.{room-length, room_limit}
use Rattle.book_rooms.proofs.Rows.{row_number, row_within}

pub record Roomy (b : Buffers) (xs : List Node) (ys : List Line) : Type 0 where
  pub node_rows : node_width * length xs ≤ length b.nodes
  pub names : length (packed node_form xs) ≤ length b.names
  pub line_rows : line_width * length ys ≤ length b.lines
  pub pool : length (packed line_form ys) ≤ length b.pool
  pub few_nodes : length xs ≤ node_limit
  pub few_lines : length ys ≤ line_limit
  pub few_bytes : length (packed line_form ys) ≤ pool_limit

pub roomy_start : (b : Buffers) → node_width ≤ length b.nodes → Roomy b (no_node ∷ []) []
unfolding packed node_form
roomy_start b h = record {
  node_rows = h;
  names = omega arith;
  line_rows = omega arith;
  pool = omega arith;
  few_nodes = omega arith;
  few_lines = omega arith;
  few_bytes = omega arith;
}

module _ (b : Buffers) (xs : List Node) (ys : List Line) (t : Roomy b xs ys) where
  -- the bytes of one more node, and of one more line
  node-bytes : (x : Node) → length (packed node_form (xs ++ x ∷ [])) ≡ length (packed node_form xs) + length x.name
  unfolding packed node_form
  node-bytes x = simp (packed-append node_form xs (x ∷ []), length-append) (omega arith)

  line_bytes : (y : Line) → length (packed line_form (ys ++ y ∷ [])) ≡ length (packed line_form ys) + length y.bytes
  unfolding packed line_form
  line_bytes y = simp (packed-append line_form ys (y ∷ []), length-append) (omega arith)

  pub roomy-node : (x : Node) → node_room b xs x.name ≡ true → Roomy b (xs ++ x ∷ []) ys
  unfolding node_room
  roomy-node x e =
      let a = both (row_room node_limit node_width b.nodes (length xs)) _ e in
      let d = both (ltb (length xs) node_limit) _ a.0 in
      let i = ltb-true (length xs) node_limit d.0 in
      let j = leb-true (node_width * (length xs + 1)) (length b.nodes) d.1 in
      let k = leb-true (length (packed node_form xs) + length x.name) (length b.names) a.1 in
      let n : length (xs ++ x ∷ []) ≡ length xs + 1 = length-append xs (x ∷ []) in
      record {
        node_rows = omega arith;
        names = omega (arith, node-bytes x);
        line_rows = t.line_rows;
        pool = t.pool;
        few_nodes = omega arith;
        few_lines = t.few_lines;
        few_bytes = t.few_bytes;
      }

  pub roomy-line : (y : Line) → line_room b ys y.bytes ≡ true → Roomy b xs (ys ++ y ∷ [])
  unfolding line_room
  roomy-line y e =
      let a = both (fits_row b.lines (length ys)) _ e in
      let i = row_number b.lines (length ys) a.0 in
      let j = row_within b.lines (length ys) a.0 in
      let k = leb-true (length (packed line_form ys) + length y.bytes) (pool_room b.pool) a.1 in
      let n : length (ys ++ y ∷ []) ≡ length ys + 1 = length-append ys (y ∷ []) in
      record {
        node_rows = t.node_rows;
        names = t.names;
        line_rows = omega arith;
        pool = omega (arith, line_bytes y, room-length b.pool);
        few_nodes = t.few_nodes;
        few_lines = omega arith;
        few_bytes = omega (arith, line_bytes y, room_limit b.pool);
      }

  -- a parent takes no room
  pub roomy-parent : (i : ℕ) (x : Node) → x.name ≡ (get_or xs i no_node).name → Roomy b (set xs i x) ys
  unfolding node_form
  roomy-parent i x e = record {
    node_rows = rw length-set t.node_rows;
    names = rw (packed-set node_form xs i x no_node e) t.names;
    line_rows = t.line_rows;
    pool = t.pool;
    few_nodes = rw length-set t.few_nodes;
    few_lines = t.few_lines;
    few_bytes = t.few_bytes;
  }
