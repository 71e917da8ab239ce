-- All events of a text, and how its reading ends. Of 01's refusals these are 1, of the script or text, and 2 to 4. Row 0's room, a token's 1, 5, 6, and 7 and
-- 8 are asked by who takes the events; an opening asks 1 and row 0's room before the first of them. Assumes nothing.
use Rattle.std.specs.Prelude.{ℕ, zero, suc, ◌+◌, ◌-◌, List, [], ◌∷◌, length, Some, None, Ok, Err}
use Rattle.numbers.specs.declared.Edition.{Edition}
use Rattle.numbers.specs.Saying.{number}
use Rattle.reading_cursors.specs.declared.Cursor.{Cursor}
use Rattle.reading_cursors.specs.declared.Event.{Event}
use Rattle.reading_cursors.specs.declared.places.Place.{Place}
use Rattle.reading_cursors.specs.Moves.{Step, start}
use Rattle.reading.specs.Scripts.{next}

-- a text is accepted, or refused with 01's number at a place
pub data Outcome : Type 0 where
  accepted : Outcome
  refused : ℕ → ℕ → Outcome

pub record Reading : Type 0 where
  pub events : List Event
  pub outcome : Outcome

abbrev pub and_then : Event → Reading → Reading
and_then e r = record { events = e ∷ r.events; outcome = r.outcome }

abbrev pub ends : Outcome → Reading
ends o = record { events = []; outcome = o }

abbrev pub on_step : Step → (Cursor → Reading) → Reading
on_step (Ok (Some (e, d))) on = and_then e (on d)
on_step (Ok None) on = ends accepted
on_step (Err r) on = ends (refused (number r.refusal) r.place)

-- with at most n events
unfoldable pub reading_within : ℕ → List ℕ → Cursor → Reading
reading_within zero s c = ends accepted
reading_within (suc n) s c = on_step (next s c) (λ d. reading_within n s d)

-- each event of a reading that began at the start moves on in the text, so there are no more than its bytes and two (proofs/Onward.antt)
unfoldable pub reading_from : List ℕ → Cursor → Reading
reading_from s c = reading_within (length s + 2 - c.at) s c

-- the text s from a place of the grammar on, in an edition
unfoldable pub reading : Edition → Place → List ℕ → Reading
reading edition place s = reading_from s (start edition place)
