-- The loop of `add_lines`: what is left to read decides, from event to event, and the end leaves the book laid out, or all is as it was. The premises are what
-- the code learned. Assumes nothing.
use Prim.Native.Nat.{ℕ, ◌+◌, ◌-◌, ◌<◌}
use mathlib.Core.Path.{◌≡◌, refl, sym, ap, subst, ◌∙◌}
use mathlib.Core.List.{List}
use mathlib.Core.Bool.{true, false, true≢false}
use native.Mathlib.Omega.{arith}
use borrow.Author.Tests.{ne_eqb}
use lib.Dec.{eqb}
use lib.ListN.{length}
use Rattle.numbers.specs.Editions.{reld}
use Rattle.numbers.specs.Saying.{number}
use Rattle.std.specs.Prelude.{Option, Some, Ok, Err, Result}
use Rattle.reading_cursors.specs.declared.places.Place.{Place}
use Rattle.reading_cursors.specs.declared.Cursor.{Cursor}
use Rattle.reading_cursors.specs.declared.Event.{Event}
use Rattle.reading_cursors.specs.declared.RefusedAt.{RefusedAt}
use Rattle.reading_cursors.specs.Moves.{Step, stepped, finished, start}
use Rattle.reading.specs.Scripts.{next}
use Rattle.reading.specs.Events.{on_step, reading, reading_from}
use Rattle.reading.specs.Standing.{Standing}
use Rattle.reading.proofs.Onward.{next_onward, next_stands, reading_step, start_stands}
use Rattle.reading.proofs.Parts.{Marked, next_parts, start_marked}
use Rattle.book.specs.declared.Counts.{Counts}
use Rattle.book.specs.Books.{Book, Node, export, rust}
use Rattle.book.specs.Layout.{Buffers, counts_of, five, laid_out}
use Rattle.book.specs.View.{book_of, laid}
use Rattle.book.proofs.Views.{Layout, Rooms, fits-layout, fits_same, laid_from, laid_out-rooms, laid_out_same, laid-packs, layout-fits}
use Rattle.book_building.specs.Events.{Lies}
use Rattle.book_opening.proofs.EachEvent.{parts_lie}
use Rattle.trial.specs.Changes.{Change, Leaves, Makes, after, edited, no, to}
use Rattle.trial.specs.Clearing.{Clears, Reaches}
use Rattle.trial.specs.Symbols.{add_event, add_events, add_reading, on_change}
use Rattle.trial.proofs.Answers.{layout_answers, refusal_answers}
use Rattle.trial.proofs.Growth.{Grown, back_asks, event_grows, grown_none, taken_back}
use Rattle.trial.proofs.SameRooms.{event_same}

-- ---- a change that was made, by what was answered: d are its counts, and b' the buffers behind it
record Made (b b' : Buffers) (d : Counts) (x : Change) : Type 0 where
  book : Book
  is : x ≡ to book
  counts : d ≡ counts_of book
  laid : b' ≡ laid_out b book

made : (b b' : Buffers) (r : Result Counts ℕ) (d : Counts) → r ≡ Ok d → (x : Change) → Leaves b x r b' → Made b b' d x
unfolding edited after
made b b' r d z (to w) h = let e = h.0 in record { book = w; is = refl; counts = cc; laid = h.1 }
made b b' r d z (no n) h = let e = h.0 in absurd (true≢false (cc))

-- and one that was refused
refused : (b b' : Buffers) (r : Result Counts ℕ) (n : ℕ) → r ≡ Err n → (x : Change) → Leaves b x r b' → (x ≡ no n) × (b' ≡ b)
unfolding edited after
refused b b' r n z (to w) h = let e = h.0 in absurd (true≢false (cc))
refused b b' r n z (no i) h = let e = h.0 in (cc, h.1)

-- ---- the loop: n m l q j are the buffers at entry, with the counts c, and l' q' j' as they are, with the counts k
pub record Going (c : Counts) (place : Place) (s n m l q j l' q' j' : List ℕ) (x : Cursor) (k : Counts) : Type 0 where
  pub asked : (laid c (five n m l q j) ≡ true) × (0 < c.nodes) × (c.kind ≡ export)
  pub stands : Standing s x
  pub marked : Marked x
  pub book : Book
  pub layout : Layout k (five n m l' q' j') book
  pub rooms : Rooms (five n m l' q' j') (five n m l q j)
  pub grown : Grown (book_of c (five n m l q j)) book
  pub whole : add_reading (five n m l q j) s (book_of c (five n m l q j)) (reading reld place s) ≡ add_reading (five n m l q j) s book (reading_from s x)

pub going_starts : {c : Counts} {place : Place} {s n m l q j : List ℕ} → (laid c (five n m l q j) ≡ true) × (0 < c.nodes) × (c.kind ≡ export)
    → {x : Cursor} → x ≡ start reld place → Going c place s n m l q j l q j x c
unfolding reading
going_starts {c} {place} {s} {n} {m} {l} {q} {j} pre z = record {
  asked = pre;
  stands = rw z (start_stands reld place s);
  marked = rw z (start_marked reld place);
  book = book_of c (five n m l q j);
  layout = laid-packs c (five n m l q j) pre.0;
  rooms = record { nodes = refl; names = refl; lines = refl; pool = refl; journal = refl };
  grown = grown_none (book_of c (five n m l q j));
  whole = rw z;
}

module _ {c : Counts} {place : Place} {s n m l q j l' q' j' : List ℕ} {x : Cursor} {k : Counts} (i : Going c place s n m l q j l' q' j' x k) where
  abbrev lent : Buffers
  lent = five n m l q j

  abbrev lent_now : Buffers
  lent_now = five n m l' q' j'

  abbrev held : Book
  held = book_of c lent

  abbrev Adds : Result Counts ℕ → Buffers → Type 0
  Adds = Makes c lent (λ b w. add_reading b s w (reading reld place s))

  abbrev change : Change
  change = add_reading lent s held (reading reld place s)

  layout-held : Layout c lent held
  layout-held = laid-packs c lent i.asked.0

  -- what `add_event` asks, with `event_lies`
  pub now_laid : laid k lent_now ≡ true
  now_laid = (laid_from i.layout).0

  pub some_nodes : 0 < k.nodes
  some_nodes =
      let a = layout-held.nodes.count in
      let b = i.layout.nodes.count in
      omega (arith, i.asked.1, ap (λ (ns : List Node). length ns) i.grown.nodes)

  -- what `clear_added` asks, and what it leaves
  pub going_back : Reaches c k l' q' j'
  going_back = back_asks c k n m l q j l' q' j' held i.book layout-held i.layout i.grown

  back_same : (l'' q'' j'' : List ℕ) → Clears c k l' q' j' l'' q'' j'' → five n m l'' q'' j'' ≡ lent
  back_same = taken_back c k n m l q j l' q' j' held i.book layout-held i.layout i.grown i.rooms

  declines : (a : ℕ) (l'' q'' j'' : List ℕ) → change ≡ no a → Clears c k l' q' j' l'' q'' j'' → Adds (Err a) (five n m l'' q'' j'')
  declines a l'' q'' j'' z t =
      subst (λ (b : Buffers). Adds (Err a) b) (sym (back_same l'' q'' j'' t)) (refusal_answers lent change a z)

  -- y is what `next_event` answers
  module _ {y : Step} (e : y ≡ next s x) where
    -- what is left, by the next step
    left_to-read : (z : Step) → y ≡ z → change ≡ add_reading lent s i.book (on_step z (λ d. reading_from s d))
    left_to-read z w = i.whole ∙ ap (add_reading lent s i.book) (reading_step i.stands ∙ rw (← e, w))

    -- the text has ended
    pub going_ends : y ≡ finished → Adds (Ok k) lent_now
    unfolding add_reading add_events
    going_ends z = layout_answers k lent lent_now i.book change (left_to-read finished z) i.layout i.rooms

    -- the reading is refused
    pub going_refused : {o : RefusedAt} {l'' q'' j'' : List ℕ} → y ≡ Err o → Clears c k l' q' j' l'' q'' j'' → {a : ℕ} → a ≡ number o.refusal
        → Adds (Err a) (five n m l'' q'' j'')
    unfolding add_reading add_events
    going_refused {o} {l''} {q''} {j''} z t {a} w = declines a l'' q'' j'' (rw w (left_to-read (Err o) z)) t

    module _ {o : Option (Event × Cursor)} (z₀ : y ≡ Ok o) {v : Event} {d : Cursor} (z₁ : o ≡ Some (v, d)) where
      z : y ≡ stepped v d
      z = z₀ ∙ ap Ok z₁

      pub event_lies : Lies s v
      event_lies = parts_lie s v (next_parts s x i.marked (sym e ∙ z)).0

      pub going_onward : length s + 2 - d.at < length s + 2 - x.at
      going_onward =
          let o = next_onward i.stands (sym e ∙ z) in
          omega (arith, o.onward, o.within)

      -- r is what it answers, and l₁ q₁ j₁ are the buffers behind it
      module _ {r : Result Counts ℕ} {l₁ q₁ j₁ : List ℕ} (h : Makes k lent_now (λ b w. add_event b s w v) r (five n m l₁ q₁ j₁)) where
        event_now : add_event lent_now s (book_of k lent_now) v ≡ add_event lent s i.book v
        event_now =
            ap (λ (w : Book). add_event lent_now s w v) (laid_from i.layout).1
            ∙ event_same lent_now lent i.rooms s i.book v

        onward : (w : Change) → add_event lent s i.book v ≡ w
            → change ≡ on_change w (λ u. add_events lent s u (reading_from s d).events (reading_from s d).outcome)
        unfolding add_reading add_events
        onward w o =
            left_to-read (stepped v d) z
            ∙ ap (λ (u : Change). on_change u (λ u. add_events lent s u (reading_from s d).events (reading_from s d).outcome)) o

        module _ {a : ℕ} (f : r ≡ Err a) where
          says_no : (add_event lent_now s (book_of k lent_now) v ≡ no a) × (five n m l₁ q₁ j₁ ≡ lent_now)
          says_no = refused lent_now (five n m l₁ q₁ j₁) r a f _ h

          same_lines : l₁ ≡ l'
          same_lines = ap (λ (b : Buffers). b.lines) says_no.1

          same_pool : q₁ ≡ q'
          same_pool = ap (λ (b : Buffers). b.pool) says_no.1

          same_journal : j₁ ≡ j'
          same_journal = ap (λ (b : Buffers). b.journal) says_no.1

          -- what `clear_added` leaves then
          module _ {l'' q'' j'' : List ℕ} (t : Clears c k l₁ q₁ j₁ l'' q'' j'') where
            back_now : Clears c k l' q' j' l'' q'' j''
            back_now = rw (same_lines, same_pool, same_journal) at t

            pub going_no : Adds (Err a) (five n m l'' q'' j'')
            going_no = declines a l'' q'' j'' (onward (no a) (sym event_now ∙ says_no.0)) back_now

        -- it is added
        pub going_on : {u : Counts} → r ≡ Ok u → Going c place s n m l q j l₁ q₁ j₁ d u
        unfolding add_reading
        going_on {u} f =
            let w = made lent_now (five n m l₁ q₁ j₁) r u f _ h in
            let b = w.book in
            let t : add_event lent s i.book v ≡ to b = sym event_now ∙ w.is in
            let kind : eqb held.kind rust ≡ false = ne_eqb held.kind rust (λ o. omega (arith, i.asked.2, layout-held.kind, o)) in
            let some-held : 0 < length held.nodes = omega (arith, i.asked.1, layout-held.nodes.count) in
            let fits = fits_same lent_now lent i.book i.rooms (layout-fits i.layout) in
            let g = event_grows lent held kind some-held s i.book (record { grown = i.grown; fits = fits }) v event_lies b t in
            let o : five n m l₁ q₁ j₁ ≡ laid_out lent b = w.laid ∙ laid_out_same lent_now lent b i.rooms in
            record {
              asked = i.asked;
              stands = next_stands i.stands (sym e ∙ z);
              marked = (next_parts s x i.marked (sym e ∙ z)).1;
              book = b;
              layout = subst (λ (y : Counts). Layout y (five n m l₁ q₁ j₁) b) (sym w.counts)
                  (subst (λ (y : Buffers). Layout (counts_of b) y b) (sym o) (fits-layout lent b g.fits));
              rooms = subst (λ (y : Buffers). Rooms y lent) (sym o) (laid_out-rooms lent b g.fits);
              grown = g.grown;
              whole = onward (to b) t;
            }
