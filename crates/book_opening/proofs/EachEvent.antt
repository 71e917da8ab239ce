-- An event of a reading lies in its text; and what an event makes of a book looks at the rooms of the buffers alone. Assumes nothing.
use Prim.Native.Nat.{ℕ}
use mathlib.Core.Path.{◌≡◌, refl, ap, ◌∙◌}
use mathlib.Core.List.{List, [], ◌∷◌}
use lib.ListN.{length}
use Rattle.numbers.specs.Editions.{reld}
use Rattle.linker_script.specs.Parts.{part}
use Rattle.storing.specs.Keeping.{Keep, kept, refused, keep}
use Rattle.reading_cursors.specs.declared.places.Place.{Place}
use Rattle.reading_cursors.specs.declared.Event.{Event}
use Rattle.reading_cursors.specs.declared.Event.TheVariants.{Node, Body, Section, Extern, Closed, Line, Parent}
use Rattle.reading.specs.Events.{Outcome, reading}
use Rattle.reading.proofs.Parts.{Parts, node, body, section as section_word, extern, closed, line, parent}
use Rattle.book.specs.Books.{edition_of}
use Rattle.book.specs.Layout.{Buffers}
use Rattle.book_rooms.specs.Rooms.{line_room, node_room}
use Rattle.book_building.specs.Building.{Building, Taken, on, no, take_event, take_kept, take_node, frame_so_far}
use Rattle.book_building.specs.Events.{Lies}
use Rattle.book_opening.specs.declared.How.{How}
use Rattle.book_opening.specs.Opening.{Opening, build, build_reading, nothing_yet, on_taken, opening}

-- an event of a reading lies in its text
pub parts_lie : (s : List ℕ) (e : Event) → Parts s e → Lies s e
parts_lie s (Node p n) (node h) = h
parts_lie s Body body = tt
parts_lie s (Section k) section_word = tt
parts_lie s (Extern k l) extern = tt
parts_lie s Closed closed = tt
parts_lie s (Line k l p n) (line m h i) = (m.section, m.language, h, i)
parts_lie s (Parent p n) (parent h) = h

-- ---- buffers with the same rooms, the journal's apart
pub record Alike (b b' : Buffers) : Type 0 where
  pub nodes : length b.nodes ≡ length b'.nodes
  pub names : length b.names ≡ length b'.names
  pub lines : length b.lines ≡ length b'.lines
  pub pool : length b.pool ≡ length b'.pool

module _ (b b' : Buffers) (a : Alike b b') where
  kept-alike : (g : Building) (p section language : ℕ) (k : Keep) → take_kept b g p section language k ≡ take_kept b' g p section language k
  unfolding take_kept line_room
  kept-alike g p section language (kept k bs) = rw (a.lines, a.pool)
  kept-alike g p section language (refused n) = refl

  event_alike : (s : List ℕ) (g : Building) (e : Event) → take_event b s g e ≡ take_event b' s g e
  unfolding take_event take_node node_room
  event_alike s g (Node p n) = rw (a.nodes, a.names)
  event_alike s g Body = refl
  event_alike s g (Section k) = refl
  event_alike s g (Extern k l) = refl
  event_alike s g Closed = refl
  event_alike s g (Line k l p n) = kept-alike g p k l (keep (edition_of (frame_so_far g)) (part s p n))
  event_alike s g (Parent p n) = refl

  same_on : (t : Taken) (f f' : Building → Opening) → ((h : Building) → f h ≡ f' h) → on_taken t f ≡ on_taken t f'
  same_on (on h) f f' k = k h
  same_on (no n p) f f' k = refl

  pub build-alike : (place : Place) (s : List ℕ) (g : Building) (es : List Event) (o : Outcome) → build place b s g es o ≡ build place b' s g es o
  unfolding build
  build-alike place s g [] o = refl
  build-alike place s g (e ∷ es) o =
      ap (λ (t : Taken). on_taken t (λ h. build place b s h es o)) (event_alike s g e)
      ∙ same_on (take_event b' s g e) (λ h. build place b s h es o) (λ h. build place b' s h es o) (λ h. build-alike place s h es o)

  pub opening-alike : (how : How) (s : List ℕ) → opening how b s ≡ opening how b' s
  unfolding opening build_reading
  opening-alike how s =
      let r = reading reld how.place s in
      rw (a.nodes, build-alike how.place s nothing_yet r.events r.outcome)
