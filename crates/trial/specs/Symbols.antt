-- "`add_symbol` on an export list is one add per line, all or none." Assumes nothing.
use Rattle.std.specs.Prelude.{ℕ, List, [], ◌∷◌, Bool, cond, eqb, Option, Some, None}
use Rattle.linker_script.specs.Parts.{part}
use Rattle.numbers.specs.Editions.{reld}
use Rattle.numbers.specs.Limits.{over, token_limit}
use Rattle.numbers.specs.Marks.{global}
use Rattle.numbers.specs.Refusals.{no_book, too_long, wrong_kind}
use Rattle.reading_cursors.specs.declared.places.Place.{Place}
use Rattle.reading_cursors.specs.declared.Event.{Event}
use Rattle.reading_cursors.specs.declared.Event.TheVariants.{Node, Body, Section, Extern, Closed, Line, Parent}
use Rattle.reading_cursors.specs.Places.{at_bare, at_symbol}
use Rattle.reading.specs.Events.{Outcome, accepted, refused, Reading, reading}
use Rattle.book.specs.Books.{Book, export}
use Rattle.book.specs.Layout.{Buffers}
use Rattle.trial.specs.Changes.{Change, to, no}
use Rattle.trial.specs.Trial.{append}

-- the line of an event of the text s
unfoldable pub add_event : Buffers → List ℕ → Book → Event → Change
add_event b s w (Node p n) = to w
add_event b s w Body = to w
add_event b s w (Section section) = to w
add_event b s w (Extern section language) = to w
add_event b s w Closed = to w
add_event b s w (Line section language p n) = append b w 0 global language (part s p n)
add_event b s w (Parent p n) = to w

-- "then reading order": each is added as it comes, and the reading's own refusal comes behind its last event
abbrev pub on_change : Change → (Book → Change) → Change
on_change (to w) next = next w
on_change (no n) next = no n

abbrev pub added_all : Book → Outcome → Change
added_all w accepted = to w
added_all w (refused n p) = no n

unfoldable pub add_events : Buffers → List ℕ → Book → List Event → Outcome → Change
add_events b s w [] o = added_all w o
add_events b s w (e ∷ es) o = on_change (add_event b s w e) (λ v. add_events b s v es o)

-- "With `without_semicolon` …"
abbrev pub symbol_place : Bool → Place
symbol_place bare = cond bare at_bare at_symbol

unfoldable pub add_reading : Buffers → List ℕ → Book → Reading → Change
add_reading b s w r = add_events b s w r.events r.outcome

-- "Order: 14, 13, … 1, … then reading order"; "`add_symbol` on a version book" is 13, "text … over its limit" 1
unfoldable pub symbol_asked : Buffers → Option Book → List ℕ → Bool → Change
symbol_asked b None s bare = no no_book
symbol_asked b (Some w) s bare =
    cond (eqb w.kind export)
    (cond (over token_limit s) (no too_long) (add_reading b s w (reading reld (symbol_place bare) s)))
    (no wrong_kind)
