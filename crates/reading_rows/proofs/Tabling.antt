-- The events of a reading as rows, one more at a turn, and what is told where it ends. Assumes nothing.
use Prim.Native.Nat.{ℕ, ◌+◌, ◌*◌, ◌-◌, ◌/◌, ◌<◌, ◌≤◌}
use mathlib.Core.Path.{◌≡◌, refl, sym, ◌∙◌, ap}
use mathlib.Core.List.{List, [], ◌∷◌, ◌++◌, append_assoc, append-nil}
use mathlib.Core.Bool.{Bool, true, false, cond}
use native.Mathlib.Omega.{arith}
use borrow.Author.Tests.{eq-eqb, ne_eqb, le-leb, lt-leb, lt-ltb, le-ltb}
use mir.Syntax.{w64}
use mir.Val.{Fits}
use lib.ListN.{length, length-append}
use lib.Seq.{sets, length-sets, take_all, take_at}
use Rattle.numbers.specs.Editions.{reld}
use Rattle.numbers.specs.Limits.{script_limit}
use Rattle.numbers.specs.Refusals.{no_room, too_long}
use Rattle.lists.specs.Front.{front}
use Rattle.lists.proofs.FrontLaws.{front-nil, front-run}
use Rattle.numbers.specs.Saying.{number}
use Rattle.std.specs.Prelude.{Option, Some, None, Ok, Err}
use Rattle.reading_cursors.specs.declared.places.Place.{Place}
use Rattle.reading_cursors.specs.declared.Cursor.{Cursor}
use Rattle.reading_cursors.specs.declared.Event.{Event}
use Rattle.reading_cursors.specs.declared.Event.TheVariants.{Node, Body, Section, Extern, Closed, Line, Parent}
use Rattle.reading_cursors.specs.declared.RefusedAt.{RefusedAt}
use Rattle.reading_cursors.specs.Moves.{Step, stepped, finished, start}
use Rattle.reading.specs.Scripts.{next}
use Rattle.reading.specs.Events.{Outcome, accepted, refused, ends, on_step, reading_from, reading}
use Rattle.reading.proofs.Refusals.{standing-refuses}
use Rattle.reading.specs.Standing.{Standing}
use Rattle.reading.proofs.Onward.{start_stands, next_stands, next_onward, reading_step}
use Rattle.reading_rows.specs.Rows.{row, event_rows, place_of, outcome_told, reading_told, events_told, rows_fitting, events_rows}

-- ---- a test decides
module _ (t : Bool) (x y r : ℕ) where
  pub taken : t ≡ true → r ≡ x → r ≡ cond t x y
  taken h e = rw h e

  pub left : t ≡ false → r ≡ y → r ≡ cond t x y
  left h e = rw h e

-- the place of a source
pub ruleset decides = (taken, left, eq-eqb, ne_eqb)

-- ---- rows
length-row : (e : Event) → length (row e) ≡ 5
unfolding row
length-row (Node p n) = refl
length-row Body = refl
length-row (Section x) = refl
length-row (Extern x l) = refl
length-row Closed = refl
length-row (Line x l p n) = refl
length-row (Parent p n) = refl

length-rows : (es : List Event) → length (event_rows es) ≡ 5 * length es
unfolding event_rows
length-rows [] = refl
length-rows (e ∷ es) = length-append (row e) (event_rows es) ∙ omega (arith, length-row e, length-rows es)

rows_more : (es : List Event) (e : Event) → event_rows (es ++ e ∷ []) ≡ event_rows es ++ row e
unfolding event_rows
rows_more [] e = append-nil (row e)
rows_more (x ∷ es) e = rw (rows_more es e) (sym (append_assoc (row x) (event_rows es) (row e)))

-- the row that was put is that of e
pub row_put : (l l' : List ℕ) (i : ℕ) (e f : Event) → e ≡ f → l' ≡ sets l i (row f) → l' ≡ sets l i (row e)
row_put l l' i e f h q = rw h q

-- ---- l is d with the rows of the events before c at its front, which are n numbers
pub record Tabled (place : Place) (s d l : List ℕ) (n : ℕ) (c : Cursor) : Type 0 where
  pub done : List Event
  pub count : n ≡ 5 * length done
  pub fits : n ≤ length d
  pub few : length done ≤ c.at
  pub long : length l ≡ length d
  pub list : l ≡ front (event_rows done) d
  pub stands : Standing s c
  pub events : (reading reld place s).events ≡ done ++ (reading_from s c).events
  pub outcome : (reading reld place s).outcome ≡ (reading_from s c).outcome

pub tabled_start : (place : Place) (s d : List ℕ) (c : Cursor) → c ≡ start reld place → Tabled place s d d 0 c
unfolding event_rows reading
tabled_start place s d c e = record {
  done = [];
  count = refl;
  fits = omega arith;
  few = omega arith;
  long = refl;
  list = front-nil d;
  stands = rw e (start_stands reld place s);
  events = rw e;
  outcome = rw e;
}

-- t is what `step` answers
module _ {place : Place} {s d l : List ℕ} {n : ℕ} {c : Cursor} (z : Tabled place s d l n c) {t : Step} (a : t ≡ next s c) where
  step : reading_from s c ≡ on_step t (λ x. reading_from s x)
  step = rw a (reading_step z.stands)

  -- all events are written
  module _ (o : Outcome) (e : reading_from s c ≡ ends o) where
    all : (reading reld place s).events ≡ z.done
    all = z.events ∙ rw (e, append-nil)

    room-enough : length z.done ≤ length d / 5
    room-enough = omega (arith, z.count, z.fits)

    all_told : outcome_told o (n / 5) ≡ reading_told (reading reld place s) (length d / 5)
    unfolding reading_told
    all_told =
        let k : n / 5 ≡ length z.done = omega (arith, z.count) in
        rw (all, z.outcome, e, le-leb (length z.done) (length d / 5) room-enough, k)

    all_rows : l ≡ front (rows_fitting place s (length d / 5)) d
    unfolding rows_fitting
    all_rows = rw (all, take_all (length d / 5) z.done room-enough) z.list

  module _ {f : Option (Event × Cursor)} (i : t ≡ Ok f) (j : f ≡ None) where
    ended : t ≡ finished
    ended = i ∙ ap Ok j

    pub end_told : 256 * (n / 5) ≡ reading_told (reading reld place s) (length d / 5)
    unfolding outcome_told
    end_told = all_told accepted (step ∙ rw ended)

    pub end_rows : l ≡ front (rows_fitting place s (length d / 5)) d
    end_rows = all_rows accepted (step ∙ rw ended)

    pub end_fits : length s ≤ script_limit → Fits w64 (256 * (n / 5))
    end_fits m = omega (arith, z.count, z.few, z.stands.within)

  -- x is what `number` answers
  module _ {r : RefusedAt} (h : t ≡ Err r) {x : ℕ} (y : x ≡ number r.refusal) where
    pub refused-told : x + 256 * r.place ≡ reading_told (reading reld place s) (length d / 5)
    unfolding outcome_told
    refused-told = rw y (all_told (refused (number r.refusal) r.place) (step ∙ rw h))

    pub refused-rows : l ≡ front (rows_fitting place s (length d / 5)) d
    refused-rows = all_rows (refused (number r.refusal) r.place) (step ∙ rw h)

    module _ (m : length s ≤ script_limit) where
      bounds : (number r.refusal ≤ 4) × (r.place ≤ length s)
      bounds = standing-refuses z.stands {n = r.refusal} {p = r.place} (sym a ∙ h)

      pub place-fits : Fits w64 (256 * r.place)
      place-fits = omega (arith, bounds)

      pub refused-fits : Fits w64 (x + 256 * r.place)
      refused-fits = omega (arith, bounds, y)

  module _ {f : Option (Event × Cursor)} (i : t ≡ Ok f) {e : Event} {k : Cursor} (j : f ≡ Some (e, k)) where
    h : t ≡ stepped e k
    h = i ∙ ap Ok j

    goes : (reading reld place s).events ≡ z.done ++ (e ∷ (reading_from s k).events)
    goes = z.events ∙ rw (step, h)

    -- without room for one more
    module _ (r : length l - n < 5) where
      room : length z.done ≡ length d / 5
      room = omega (arith, z.count, z.fits, z.long)

      pub room-told : no_room ≡ reading_told (reading reld place s) (length d / 5)
      unfolding reading_told
      room-told =
          let w : length d / 5 < length (reading reld place s).events = rw (goes, length-append) (omega (arith, room)) in
          rw (lt-leb (length (reading reld place s).events) (length d / 5) w)

      pub room-rows : l ≡ front (rows_fitting place s (length d / 5)) d
      unfolding rows_fitting
      room-rows = rw (goes, take_at z.done (e ∷ (reading_from s k).events) (length d / 5) room) z.list

    -- one row more
    pub tabled_more : 5 ≤ length l - n → (l' : List ℕ) → l' ≡ sets l n (row e) → Tabled place s d l' (n + 5) k
    tabled_more r l' q =
        let y : next s c ≡ stepped e k = sym a ∙ h in
        let m : n ≡ length (event_rows z.done) = z.count ∙ sym (length-rows z.done) in
        let w : length (event_rows z.done) + length (row e) ≤ length d = omega (arith, m, length-row e, z.long, z.fits) in
        record {
          done = z.done ++ e ∷ [];
          count = simp length-append (omega (arith, z.count));
          fits = omega (arith, z.long, z.fits);
          few = simp length-append (omega (arith, z.few, (next_onward z.stands y).onward));
          long = rw q (length-sets l n (row e) ∙ z.long);
          list = q ∙ rw (z.list, m, front-run (event_rows z.done) d (row e) w, rows_more);
          stands = next_stands z.stands y;
          events = goes ∙ sym (append_assoc z.done (e ∷ []) (reading_from s k).events);
          outcome = z.outcome ∙ rw (step, h);
        }

    pub onward : length s + 2 - k.at < length s + 2 - c.at
    onward = omega (arith, z.stands.within, (next_onward z.stands (sym a ∙ h)).onward)

-- ---- a text of a host
module _ (source : ℕ) (s d : List ℕ) where
  module _ (h : script_limit < length s) where
    pub over-told : too_long ≡ events_told source s (length d)
    unfolding events_told
    over-told = rw (lt-ltb script_limit (length s) h)

    pub over-rows : d ≡ events_rows source s d
    unfolding events_rows
    over-rows = rw (lt-ltb script_limit (length s) h)

  -- p is what `source_place` answers
  module _ (h : length s ≤ script_limit) (p : Place) (e : p ≡ place_of source) where
    pub within-told : (r : ℕ) → r ≡ reading_told (reading reld p s) (length d / 5) → r ≡ events_told source s (length d)
    unfolding events_told
    within-told r q = rw (le-ltb script_limit (length s) h, ← e) q

    pub within-rows : (l : List ℕ) → l ≡ front (rows_fitting p s (length d / 5)) d → l ≡ events_rows source s d
    unfolding events_rows
    within-rows l q = rw (le-ltb script_limit (length s) h, ← e) q
