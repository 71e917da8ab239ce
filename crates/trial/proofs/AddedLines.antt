-- A line that is added to a book of the Regular kind or to an export list: there is a node for it, it is as the book's lines are asked to be, and the book
-- with it, and with its edit, fits again. Assumes nothing.
use Prim.Native.Nat.{ℕ, ◌+◌, ◌*◌, ◌≤◌, ◌<◌}
use mathlib.Core.Path.{◌≡◌, refl, sym}
use mathlib.Core.List.{List, [], ◌∷◌, ◌++◌}
use mathlib.Core.Bool.{Bool, true, false, cond, true≢false}
use native.Mathlib.Omega.{arith}
use borrow.Author.Tests.{eq-eqb, leb-true, ltb-true}
use lib.Dec.{eqb, ltb}
use lib.ListN.{length, length-append}
use Rattle.numbers.specs.Limits.{edit_limit}
use Rattle.numbers.specs.Marks.{global}
use Rattle.lists.proofs.Tests.{both}
use Rattle.lists.specs.Each.{every}
use Rattle.packing.specs.Tables.{packed}
use Rattle.packing.proofs.TableLaws.{every_append, packed-append}
use Rattle.classes.specs.declared.Class.{Class}
use Rattle.classes.specs.Classes.{class_number}
use Rattle.storing.specs.Keeping.{kept, keep}
use Rattle.book.specs.declared.Frame.{Frame}
use Rattle.book.specs.Books.{Book, Edit, Line, Node, add, book_frame, edition_of, export, new_line, regular, rust}
use Rattle.book.specs.Layout.{Buffers, edit_width, line_form}
use Rattle.book.specs.Sanity.{edit_ok, in_range, kind_allows, line_ok, nodes_good, offset_good}
use Rattle.book.specs.View.{Fits}
use Rattle.book_rooms.specs.Rooms.{edit_room, fits_row, line_room, pool_room}
use Rattle.book_rooms.proofs.Putting.{room-length, room_limit}
use Rattle.book_rooms.proofs.Rows.{row_number, row_within}
use Rattle.book_building.proofs.Kept.{kept_line}
use Rattle.trial.specs.Trial.{with_line}

-- a book has a node 0
pub some_node : (xs : List Node) → nodes_good xs ≡ true → 0 < length xs
unfolding nodes_good
some_node [] e = absurd (true≢false (sym e))
some_node (x ∷ xs) e = omega arith

-- "local … in an export list" is refused
module _ (frame : Frame) (k : eqb frame.kind rust ≡ false) where
  allows : (x : Line) → (eqb frame.kind export ≡ true → x.section ≡ global) → kind_allows frame.kind x ≡ true
  unfolding kind_allows
  allows x f = rw k (go (eqb frame.kind export) f)
    where
      go : (v : Bool) → (v ≡ true → x.section ≡ global) → cond v (eqb x.section global) true ≡ true
      go true g = eq-eqb _ _ (g refl)
      go false g = refl

  pub added_ok : (t : List ℕ) (c : Class) (bs : List ℕ) → keep (edition_of frame) t ≡ kept c bs → (node section language : ℕ) → node < frame.nodes
      → section ≤ 1 → language ≤ 1 → (eqb frame.kind export ≡ true → section ≡ global) → line_ok frame (new_line node section language (class_number c) bs) ≡ true
  unfolding line_ok
  added_ok t c bs q node section language i j l f =
      let x : Line = new_line node section language (class_number c) bs in
      let h = both (in_range frame.nodes x) _ (kept_line frame.nodes t c bs q node section language 0 i j l (omega arith)) in
      let o = both (offset_good x) _ h.1 in
      rw (h.0, o.0, allows x f) (both (kind_allows regular x) _ o.1).1

-- ---- the book with it
pub fits_line : (b : Buffers) (w : Book) → Fits b w → (x : Line) → line_ok (book_frame w) x ≡ true → line_room b w.lines x.bytes ≡ true
    → edit_room b w.edits ≡ true → Fits b (with_line w x)
unfolding every packed line_form line_room edit_room edit_ok
fits_line b w f x o r q =
    let ls = w.lines in
    let e : Edit = record { what = add; line = length ls } in
    let a = both (fits_row b.lines (length ls)) _ r in
    let p = leb-true (length (packed line_form ls) + length x.bytes) (pool_room b.pool) a.1 in
    let h = both (ltb (length w.edits) edit_limit) _ q in
    let lines : length (ls ++ x ∷ []) ≡ length ls + 1 = length-append ls (x ∷ []) in
    let edits : length (w.edits ++ e ∷ []) ≡ length w.edits + 1 = length-append w.edits (e ∷ []) in
    let bytes : length (packed line_form (ls ++ x ∷ [])) ≡ length (packed line_form ls) + length x.bytes
    = simp (packed-append line_form ls (x ∷ []), length-append) (omega arith) in
    record {
      node_room = f.node_room;
      name_room = f.name_room;
      line_room = omega (arith, row_within b.lines (length ls) a.0);
      pool_room = omega (arith, p, room-length b.pool);
      edit_room = omega (arith, leb-true (edit_width * (length w.edits + 1)) (length b.journal) h.1);
      few_nodes = f.few_nodes;
      few_lines = omega (arith, row_number b.lines (length ls) a.0);
      few_bytes = omega (arith, p, room_limit b.pool);
      few_edits = omega (arith, ltb-true (length w.edits) edit_limit h.0);
      lines_ok = every_append (line_ok (book_frame w)) ls (x ∷ []) f.lines_ok (rw o);
      edits_ok = every_append edit_ok w.edits (e ∷ []) f.edits_ok refl;
    }
