-- A refused opening tells a place of its text (`opening-refuses-within`), from whatever place of the grammar it is read. Assumes nothing.
use Prim.Native.Nat.{ℕ, zero, suc, ◌≤◌}
use mathlib.Core.Path.{◌≡◌, refl}
use mathlib.Core.List.{List, [], ◌∷◌}
use mathlib.Core.Bool.{Bool, true, false, cond}
use Rattle.std.specs.Prelude.{Option, Some, None, Ok, Err}
use native.Mathlib.Omega.{arith}
use lib.Dec.{leb, ltb}
use lib.ListN.{length}
use Rattle.linker_script.specs.Parts.{part}
use Rattle.numbers.specs.Editions.{reld}
use Rattle.numbers.specs.Limits.{script_limit}
use Rattle.numbers.specs.Refusals.{no_room, too_long, unknown_parent}
use Rattle.storing.specs.Keeping.{Keep, kept, refused, keep}
use Rattle.reading_cursors.specs.declared.places.Place.{Place}
use Rattle.reading_cursors.specs.declared.Cursor.{Cursor}
use Rattle.reading_cursors.specs.declared.Event.{Event}
use Rattle.reading_cursors.specs.declared.Event.TheVariants.{Node, Body, Section, Extern, Closed, Line, Parent}
use Rattle.reading_cursors.specs.Moves.{Step, start}
use Rattle.reading.specs.Scripts.{next}
use Rattle.reading.specs.Events.{on_step, reading, reading_from, reading_within}
use Rattle.reading.specs.Standing.{Standing}
use Rattle.reading.proofs.Onward.{next_stands, start_stands}
use Rattle.reading.proofs.Parts.{Marked, next_parts, start_marked}
use Rattle.reading.proofs.Refusals.{standing-refuses}
use Rattle.book.specs.Books.{edition_of, first_named}
use Rattle.book.specs.Layout.{Buffers, node_width}
use Rattle.book_rooms.specs.Rooms.{line_room, node_room}
use Rattle.book_building.specs.Building.{Building, Taken, frame_so_far, no, on, take_event, take_kept, take_node, take_parent, to_parent}
use Rattle.book_building.specs.Events.{Lies}
use Rattle.book_opening.specs.declared.How.{How}
use Rattle.book_opening.specs.Opening.{Opening, build, build_reading, declined, nothing_yet, on_taken, opening, opens}
use Rattle.book_opening.proofs.EachEvent.{parts_lie}

module _ (s : List ℕ) where
  -- what says no says a place of the text
  abbrev TakenWithin : Taken → Type 0
  TakenWithin (on g) = Unit {0}
  TakenWithin (no n p) = p ≤ length s

  abbrev Within : Opening → Type 0
  Within (opens w) = Unit {0}
  Within (declined n p) = p ≤ length s

  -- ---- an event is refused where it lies
  when-within : (t : Bool) (g : Building) (n p : ℕ) → p ≤ length s → TakenWithin (cond t (on g) (no n p))
  when-within true g n p h = tt
  when-within false g n p h = h

  kept-within : (b : Buffers) (g : Building) (p section language : ℕ) (k : Keep) → p ≤ length s → TakenWithin (take_kept b g p section language k)
  unfolding take_kept
  kept-within b g p section language (kept k bs) h = when-within (line_room b g.lines bs) _ no_room p h
  kept-within b g p section language (refused n) h = h

  found_within : (g : Building) (p : ℕ) (a : Option ℕ) → p ≤ length s → TakenWithin (to_parent g p a)
  found_within g p (Some q) h = when-within (ltb q _) _ unknown_parent p h
  found_within g p None h = h

  parent-within : (g : Building) (p : ℕ) (t : List ℕ) → p ≤ length s → TakenWithin (take_parent g p t)
  unfolding take_parent
  parent-within g p [] h = tt
  parent-within g p (c ∷ t) h = found_within g p (first_named g.nodes 0 (c ∷ t)) h

  event_within : (b : Buffers) (g : Building) (e : Event) → Lies s e → TakenWithin (take_event b s g e)
  unfolding take_event take_node
  event_within b g (Node p n) h = when-within (node_room b g.nodes (part s p n)) _ no_room p (omega arith)
  event_within b g Body h = tt
  event_within b g (Section k) h = tt
  event_within b g (Extern k l) h = tt
  event_within b g Closed h = tt
  event_within b g (Line k l p n) h = kept-within b g p k l (keep (edition_of (frame_so_far g)) (part s p n)) (omega arith)
  event_within b g (Parent p n) h = parent-within g p (part s p n) (omega arith)

  -- ---- the whole
  on_within : (t : Taken) (f : Building → Opening) → TakenWithin t → ((g : Building) → Within (f g)) → Within (on_taken t f)
  on_within (on g) f h k = k g
  on_within (no n p) f h k = h

  module _ (place : Place) (b : Buffers) where
    build-within : (m : ℕ) (c : Cursor) (g : Building) → Standing s c → Marked c → Within (build_reading place b s g (reading_within m s c))
    unfolding build_reading build reading_within
    build-within zero c g k r = tt
    build-within (suc m) c g k r = go (next s c) refl (build-within m)
      where
        go : (t : Step) → next s c ≡ t
            → ((d : Cursor) (h : Building) → Standing s d → Marked d → Within (build_reading place b s h (reading_within m s d)))
            → Within (build_reading place b s g (on_step t (λ d. reading_within m s d)))
        go (Ok (Some (e, d))) z more =
            let t = next_parts s c r z in
            on_within (take_event b s g e) _ (event_within b g e (parts_lie s e t.0)) (λ h. more d h (next_stands k z) t.1)
        go (Ok None) z more = tt
        go (Err r) z more = (standing-refuses k {n = r.refusal} {p = r.place} z).1

  module _ (how : How) (b : Buffers) where
    opening-within : Within (opening how b s)
    unfolding opening reading reading_from
    opening-within = go (ltb script_limit (length s)) (leb node_width (length b.nodes))
      where
        go : (x y : Bool)
            → Within (cond x (declined too_long 0) (cond y (build_reading how.place b s nothing_yet (reading reld how.place s)) (declined no_room 0)))
        go true y = omega arith
        go false true =
            build-within how.place b _ (start reld how.place) nothing_yet (start_stands reld how.place s) (start_marked reld how.place)
        go false false = omega arith

    pub opening-refuses-within : (n p : ℕ) → opening how b s ≡ declined n p → p ≤ length s
    opening-refuses-within n p e = rw e at opening-within
