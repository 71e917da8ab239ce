-- A book while its text is read: what each event of the reading makes of it. Assumes nothing.
use Rattle.std.specs.Prelude.{ℕ, ◌-◌, List, [], ◌∷◌, ◌++◌, Bool, true, false, cond, ◌&&◌, ◌||◌, not, eqb, ltb, length, get_or, set, Option, Some, None}
use Rattle.linker_script.specs.Parts.{part}
use Rattle.numbers.specs.Classes.{all_class, exact_class}
use Rattle.numbers.specs.Marks.{global, local}
use Rattle.numbers.specs.Refusals.{no_room, unknown_parent}
use Rattle.classes.specs.Classes.{class_number}
use Rattle.numbers.specs.Saying.{number}
use Rattle.storing.specs.Keeping.{Keep, keep, kept_where}
use Rattle.reading_cursors.specs.declared.Event.{Event}
use Rattle.reading_cursors.specs.declared.Event.TheVariants.{Node, Body, Section, Extern, Closed, Line, Parent}
use Rattle.book.specs.declared.Frame.{Frame}
use Rattle.book.specs.Books.{edition_of, first_named, frame_with, new_line, no_node, offset_at, regular, with_offset}
use Rattle.book.specs.Books as book
use Rattle.book.specs.Layout.{Buffers}
use Rattle.book_rooms.specs.Rooms.{line_room, node_room}

-- what is there so far: nodes and lines; whether the reading is in an extern block; whether the globals have what the Rust kind's have not, an extern block
-- or a line that is not Exact; and whether a bare `*;` stands among the locals
pub record Building : Type 0 where
  pub nodes : List book.Node
  pub lines : List book.Line
  pub inside : Bool
  pub mixed : Bool
  pub starred : Bool

-- the frame of what is there so far
abbrev pub frame_so_far : Building → Frame
frame_so_far g = frame_with regular (length g.nodes)

-- what an event makes of it, or the number that says no and the place
pub data Taken : Type 0 where
  on : Building → Taken
  no : ℕ → ℕ → Taken

-- ---- a named node begins: "A node's room is asked after its name"
abbrev pub with_node : Building → List ℕ → Building
with_node g name = record {
  nodes = g.nodes ++ record { name = name; parent = 0 } ∷ [];
  lines = g.lines;
  inside = g.inside;
  mixed = g.mixed;
  starred = g.starred;
}

unfoldable pub take_node : Buffers → Building → ℕ → List ℕ → Taken
take_node b g p name = cond (node_room b g.nodes name) (on (with_node g name)) (no no_room p)

-- ---- an extern block opens: "an extern block among the globals, even an empty one, makes it Regular"; and closes
abbrev pub mixed_in_block : Bool → ℕ → Bool
mixed_in_block mixed section = mixed || eqb section global

abbrev pub in_block : Building → ℕ → Building
in_block g section = record { nodes = g.nodes; lines = g.lines; inside = true; mixed = mixed_in_block g.mixed section; starred = g.starred }

abbrev pub out_of_block : Building → Building
out_of_block g = record { nodes = g.nodes; lines = g.lines; inside = false; mixed = g.mixed; starred = g.starred }

-- ---- a line, of the node that began last, with its class and bytes, of a token that starts at the place p: request 02 has "the byte offset of its token in
-- the opened text plus one". The Rust kind has "only Exact lines … as globals" and "a bare `*;` among its locals (outside extern)"
abbrev pub mixed_behind : Bool → ℕ → ℕ → Bool
mixed_behind mixed section class = mixed || (eqb section global && not (eqb class exact_class))

abbrev pub starred_behind : Bool → Bool → ℕ → ℕ → Bool
starred_behind starred inside section class = starred || (eqb section local && (eqb class all_class && not inside))

abbrev pub with_line : Building → ℕ → ℕ → ℕ → ℕ → List ℕ → Building
with_line g p section language class bs = record {
  nodes = g.nodes;
  lines = g.lines ++ with_offset (offset_at p) (new_line (length g.nodes - 1) section language class bs) ∷ [];
  inside = g.inside;
  mixed = mixed_behind g.mixed section class;
  starred = starred_behind g.starred g.inside section class;
}

-- "its 1, 5, 6, 8, in this order"
unfoldable pub take_kept : Buffers → Building → ℕ → ℕ → ℕ → Keep → Taken
take_kept b g p section language x =
    kept_where (line_room b g.lines) (λ k bs. on (with_line g p section language (class_number k) bs)) (λ n. no (number n) p) x

-- ---- a named node ends: "Empty parent text means none; otherwise it equals an earlier node's name, the first such."
abbrev pub with_parent : Building → ℕ → ℕ → Building
with_parent g i q = record {
  nodes = set g.nodes i (record { name = (get_or g.nodes i no_node).name; parent = q });
  lines = g.lines;
  inside = g.inside;
  mixed = g.mixed;
  starred = g.starred;
}

abbrev pub to_parent : Building → ℕ → Option ℕ → Taken
to_parent g p (Some q) = cond (ltb q (length g.nodes - 1)) (on (with_parent g (length g.nodes - 1) q)) (no unknown_parent p)
to_parent g p None = no unknown_parent p

unfoldable pub take_parent : Building → ℕ → List ℕ → Taken
take_parent g p [] = on g
take_parent g p (c ∷ t) = to_parent g p (first_named g.nodes 0 (c ∷ t))

-- ---- an event of the text s, in buffers with the rooms of b
unfoldable pub take_event : Buffers → List ℕ → Building → Event → Taken
take_event b s g (Node p n) = take_node b g p (part s p n)
take_event b s g Body = on g
take_event b s g (Section section) = on g
take_event b s g (Extern section language) = on (in_block g section)
take_event b s g Closed = on (out_of_block g)
take_event b s g (Line section language p n) = take_kept b g p section language (keep (edition_of (frame_so_far g)) (part s p n))
take_event b s g (Parent p n) = take_parent g p (part s p n)
