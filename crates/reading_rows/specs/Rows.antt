-- The events of a text as rows of numbers, for a host in another language. Assumes nothing.
use Rattle.std.specs.Prelude.{ℕ, ◌+◌, ◌*◌, ◌/◌, List, [], ◌∷◌, ◌++◌, cond, eqb, leb, length, take}
use Rattle.numbers.specs.Editions.{reld}
use Rattle.numbers.specs.Limits.{over, script_limit}
use Rattle.numbers.specs.Refusals.{no_room, too_long}
use Rattle.lists.specs.Front.{front}
use Rattle.reading_cursors.specs.declared.places.Place.{Place}
use Rattle.reading_cursors.specs.declared.Event.{Event}
use Rattle.reading_cursors.specs.declared.Event.TheVariants.{Node, Body, Section, Extern, Closed, Line, Parent}
use Rattle.reading_cursors.specs.Places.{at_script, at_list, at_symbol, at_bare}
use Rattle.reading.specs.Events.{Outcome, accepted, refused, Reading, reading}

-- the kind, and its numbers
unfoldable pub row : Event → List ℕ
row (Node p n) = 1 ∷ p ∷ n ∷ 0 ∷ 0 ∷ []
row Body = 2 ∷ 0 ∷ 0 ∷ 0 ∷ 0 ∷ []
row (Section x) = 3 ∷ x ∷ 0 ∷ 0 ∷ 0 ∷ []
row (Extern x l) = 4 ∷ x ∷ l ∷ 0 ∷ 0 ∷ []
row Closed = 5 ∷ 0 ∷ 0 ∷ 0 ∷ 0 ∷ []
row (Line x l p n) = 6 ∷ x ∷ l ∷ p ∷ n ∷ []
row (Parent p n) = 7 ∷ p ∷ n ∷ 0 ∷ 0 ∷ []

unfoldable pub event_rows : List Event → List ℕ
event_rows [] = []
event_rows (e ∷ es) = row e ++ event_rows es

-- 0 a version script, 1 an export list, 2 a text of `add_symbol`, any other one without semicolon
unfoldable pub place_of : ℕ → Place
place_of source = cond (eqb source 0) at_script (cond (eqb source 1) at_list (cond (eqb source 2) at_symbol at_bare))

-- a refusal's number with 256 times its place, or 256 times the number of events; too few rows, `room` of them, are refused 8
unfoldable pub outcome_told : Outcome → ℕ → ℕ
outcome_told accepted n = 256 * n
outcome_told (refused x p) n = x + 256 * p

unfoldable pub reading_told : Reading → ℕ → ℕ
reading_told r room = cond (leb (length r.events) room) (outcome_told r.outcome (length r.events)) no_room

-- into a buffer of `room` numbers; a text over the largest limit is not looked at
unfoldable pub events_told : ℕ → List ℕ → ℕ → ℕ
events_told source s room = cond (over script_limit s) too_long (reading_told (reading reld (place_of source) s) (room / 5))

-- the rows that fit, of `room` rows, stand at the front of the buffer
unfoldable pub rows_fitting : Place → List ℕ → ℕ → List ℕ
rows_fitting place s room = event_rows (take room (reading reld place s).events)

unfoldable pub events_rows : ℕ → List ℕ → List ℕ → List ℕ
events_rows source s d = cond (over script_limit s) d (front (rows_fitting (place_of source) s (length d / 5)) d)
