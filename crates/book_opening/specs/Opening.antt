-- Opening a text into lent buffers, as 01 has it: "opening starts with 1 and row 0's room", then goes on in reading order. A text is read from a place of the
-- grammar on (`place`), the one of `how` it is opened; a refusal is answered with its place in the text (p), which 01 does not ask for. Assumes nothing.
use Rattle.std.specs.Prelude.{ℕ, List, [], ◌∷◌, Bool, false, cond, ◌&&◌, not, eqb, leb, length}
use Rattle.numbers.specs.Editions.{reld}
use Rattle.numbers.specs.Limits.{over, script_limit}
use Rattle.numbers.specs.Refusals.{no_room, too_long}
use Rattle.packing.specs.Padding.{zeroed}
use Rattle.reading_cursors.specs.declared.places.Place.{Place}
use Rattle.reading_cursors.specs.declared.Event.{Event}
use Rattle.reading_cursors.specs.Places.{at_list, at_script, is_list}
use Rattle.reading.specs.Events.{Outcome, accepted, refused, Reading, reading}
use Rattle.book.specs.Books.{Book, export, no_node, regular, rust}
use Rattle.book.specs.Layout.{Buffers, counts_of, laid_out, no_counts, node_width}
use Rattle.book_opening.specs.declared.How.{How}
use Rattle.book_opening.specs.declared.Opened.{Opened}
use Rattle.book_building.specs.Building.{Building, Taken, on, no, take_event}

-- a text opens as a book, or is refused with a number at a place
pub data Opening : Type 0 where
  opens : Book → Opening
  declined : ℕ → ℕ → Opening

-- how a text is opened: as a version script, or as an export list
abbrev pub as_script : How
as_script = record { place = at_script }

abbrev pub as_list : How
as_list = record { place = at_list }

-- "node 0 holds the body", or "is the empty base"
unfoldable pub nothing_yet : Building
nothing_yet = record { nodes = no_node ∷ []; lines = []; inside = false; mixed = false; starred = false }

-- "Rust kind: a one-body script with a bare `*;` among its locals (outside extern) and only Exact lines, outside extern, as globals". A script with a line
-- and no named node has one body. An export list's kind is its own, and any other script is Regular
unfoldable pub kind_of : Place → ℕ → Bool → Bool → ℕ
kind_of place nodes starred mixed = cond (is_list place) export (cond (eqb nodes 1 && (starred && not mixed)) rust regular)

abbrev pub finished : Place → Building → Book
finished place g = record {
  kind = kind_of place (length g.nodes) g.starred g.mixed;
  nodes = g.nodes;
  lines = g.lines;
  edits = [];
}

-- ---- "then reading order": each event is taken as it comes, and the reading's own refusal comes behind its last event
abbrev pub on_taken : Taken → (Building → Opening) → Opening
on_taken (on g) next = next g
on_taken (no n p) next = declined n p

abbrev pub ended : Place → Building → Outcome → Opening
ended place g accepted = opens (finished place g)
ended place g (refused n p) = declined n p

unfoldable pub build : Place → Buffers → List ℕ → Building → List Event → Outcome → Opening
build place b s g [] o = ended place g o
build place b s g (e ∷ es) o = on_taken (take_event b s g e) (λ h. build place b s h es o)

unfoldable pub build_reading : Place → Buffers → List ℕ → Building → Reading → Opening
build_reading place b s g r = build place b s g r.events r.outcome

-- the text s, into buffers with the rooms of b
unfoldable pub opening : How → Buffers → List ℕ → Opening
opening how b s =
    cond (over script_limit s) (declined too_long 0)
    (cond (leb node_width (length b.nodes)) (build_reading how.place b s nothing_yet (reading reld how.place s))
    (declined no_room 0))

-- ---- what is answered, and what is left in the buffers: "A refused opening returns zero counts and zero buffers"
unfoldable pub told : Opening → Opened
told (opens w) = record { refusal = 0; place = 0; counts = counts_of w }
told (declined n p) = record { refusal = n; place = p; counts = no_counts }

unfoldable pub cleared : Buffers → Buffers
cleared b = record {
  nodes = zeroed b.nodes;
  names = zeroed b.names;
  lines = zeroed b.lines;
  pool = zeroed b.pool;
  journal = zeroed b.journal;
}

unfoldable pub left : Buffers → Opening → Buffers
left b (opens w) = laid_out b w
left b (declined n p) = cleared b
