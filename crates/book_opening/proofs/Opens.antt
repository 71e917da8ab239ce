-- The loop of `build` and the exits of `fill` and `open`: what is left to read decides, from event to event, and the end leaves the book laid out or is
-- refused. The premises are what the code learned. Assumes nothing.
use Prim.Native.Nat.{ℕ, ◌+◌, ◌-◌, ◌*◌, ◌≤◌, ◌<◌}
use mathlib.Core.Path.{◌≡◌, refl, sym, ap, ◌∙◌}
use mathlib.Core.List.{List, [], ◌∷◌}
use mathlib.Core.Bool.{true, true≢false}
use native.Mathlib.Omega.{arith}
use borrow.Author.Tests.{le-leb, le-ltb, lt-leb, lt-ltb}
use lib.ListN.{length, length-replicate}
use Rattle.numbers.specs.Editions.{reld}
use Rattle.numbers.specs.Limits.{line_limit, node_limit, pool_limit, script_limit}
use Rattle.numbers.specs.Refusals.{no_room, too_long}
use Rattle.numbers.specs.Saying.{number}
use Rattle.std.specs.Prelude.{Err}
use Rattle.packing.specs.Padding.{pad, zeros}
use Rattle.packing.specs.Tables.{rows}
use Rattle.packing.proofs.PaddingLaws.{pad-fits, pad-nil}
use Rattle.reading_cursors.specs.declared.places.Place.{Place}
use Rattle.reading_cursors.specs.declared.Cursor.{Cursor}
use Rattle.reading_cursors.specs.declared.Event.{Event}
use Rattle.reading_cursors.specs.declared.RefusedAt.{RefusedAt}
use Rattle.reading_cursors.specs.Moves.{Step, stepped, finished as finished_step, start}
use Rattle.reading.specs.Scripts.{next}
use Rattle.reading.specs.Events.{on_step, reading, reading_from}
use Rattle.reading.specs.Standing.{Standing}
use Rattle.reading.proofs.Onward.{next_onward, next_stands, reading_step, start_stands}
use Rattle.reading.proofs.Parts.{Marked, next_parts, start_marked}
use Rattle.book.specs.declared.Counts.{Counts}
use Rattle.book.specs.Books.{Book}
use Rattle.book.specs.Layout.{Buffers, counts_of, edit_form, five, laid_out, node_width}
use Rattle.book.proofs.Views.{laid_out_same}
use Rattle.book_opening.specs.declared.Built.{Built}
use Rattle.book_opening.specs.declared.Built.TheVariants.{Done, Refused}
use Rattle.book_opening.specs.declared.How.{How}
use Rattle.book_opening.specs.declared.Opened.{Opened}
use Rattle.book_building.specs.declared.Progress.{Progress}
use Rattle.book_building.specs.declared.Taking.{Taking}
use Rattle.book_building.specs.declared.Taking.TheVariants.{On, No}
use Rattle.book_building.specs.Building.{Taken, no, take_event}
use Rattle.book_opening.specs.Opening.{Opening, opens, declined, build, build_reading, cleared, finished, left, nothing_yet, on_taken, opening, told}
use Rattle.book_building.specs.State.{AllClear, Cleared, TookEvent, building, built, four}
use Rattle.book_opening.specs.State.{Builds, Ended, Filled, Finished, Opens}
use Rattle.book_building.proofs.States.{is_state}
use Rattle.book_building.specs.Events.{Lies}
use Rattle.book_opening.proofs.States.{finished-layout, none_yet, starts-built}
use Rattle.book_opening.proofs.EachEvent.{Alike, build-alike, opening-alike, parts_lie}

-- ---- the loop: n m l q are the buffers at entry, and n' m' l' q' as they are
pub record Going (place : Place) (s n m l q n' m' l' q' : List ℕ) (c : Cursor) (g : Progress) : Type 0 where
  pub stands : Standing s c
  pub marked : Marked c
  pub holds : built g (four n' m' l' q') ≡ true
  pub alike : Alike (four n m l q) (four n' m' l' q')
  pub whole : build_reading place (four n m l q) s nothing_yet (reading reld place s)
      ≡ build_reading place (four n' m' l' q') s (building g (four n' m' l' q')) (reading_from s c)

-- behind an opening that is known
ended-open : (o : Opening) (w : Book) (r : Built) (b b' : Buffers) → o ≡ opens w → r ≡ Done (counts_of w) → b' ≡ laid_out b w → Ended o r b b'
ended-open o w r b b' z x y = rw z (x, y)

ended_no : (o : Opening) (k p : ℕ) (r : Built) (b b' : Buffers) → o ≡ declined k p → r ≡ Refused k p → Ended o r b b'
ended_no o k p r b b' z x = rw z x

module _ (place : Place) (s n m l q : List ℕ) where
  pub going_starts : (c : Cursor) → c ≡ start reld place → node_width ≤ length n → AllClear (four n m l q)
      → Going place s n m l q n m l q c none_yet
  unfolding reading
  going_starts c z h a =
      let t = starts-built n m l q a.0 a.1 a.2 a.3 h in
      record {
        stands = rw z (start_stands reld place s);
        marked = rw z (start_marked reld place);
        holds = t.1;
        alike = record { nodes = refl; names = refl; lines = refl; pool = refl };
        whole = rw (t.0, z);
      }

  module _ (n' m' l' q' : List ℕ) (c : Cursor) (g : Progress) (i : Going place s n m l q n' m' l' q' c g) (x : Step) (k : x ≡ next s c) where
    -- what is left, by the next step
    left_to-read : (y : Step) → x ≡ y
        → build_reading place (four n m l q) s nothing_yet (reading reld place s)
        ≡ build_reading place (four n' m' l' q') s (building g (four n' m' l' q')) (on_step y (λ d. reading_from s d))
    left_to-read y z = i.whole ∙ ap (build_reading place (four n' m' l' q') s (building g (four n' m' l' q'))) (reading_step i.stands ∙ rw (← k, z))

    -- what `finished` asks
    pub finished-asks : (g.nodes ≤ node_limit) × (g.names ≤ script_limit * node_limit) × (g.lines ≤ line_limit) × (g.pool ≤ pool_limit)
    finished-asks =
        let t = (is_state g n' m' l' q' i.holds).few in
        (t.nodes, omega (arith, t.names, t.nodes), t.lines, t.pool)

    -- the text has ended: r is what `finished` answers
    pub going_ends : (r : Counts) → x ≡ finished_step → Finished place g r
        → Builds place (four n m l q) s (Done r) (four n' m' l' q')
    unfolding build_reading build
    going_ends r z f =
        let w : Book = finished place (building g (four n' m' l' q')) in
        let e = i.alike in
        ended-open _ w (Done r) (four n m l q) (four n' m' l' q') (left_to-read finished_step z) (ap Done (f n' m' l' q' i.holds))
        (finished-layout place g n' m' l' q' i.holds
        ∙ sym (laid_out_same (four n m l q) (four n' m' l' q') w (record { nodes = e.nodes; names = e.names; lines = e.lines; pool = e.pool; journal = refl })))

    -- the reading is refused
    pub going_refused : (r : RefusedAt) → x ≡ Err r → (a : ℕ) → a ≡ number r.refusal
        → Builds place (four n m l q) s (Refused a r.place) (four n' m' l' q')
    unfolding build_reading build
    going_refused r z a y = rw y (ended_no _ (number r.refusal) r.place (Refused (number r.refusal) r.place) (four n m l q) (four n' m' l' q') (left_to-read (Err r) z) refl)

    module _ (e : Event) (d : Cursor) (z : x ≡ stepped e d) where
      pub event_lies : Lies s e
      event_lies = parts_lie s e (next_parts s c i.marked (sym k ∙ z)).0

      pub going_onward : length s + 2 - d.at < length s + 2 - c.at
      going_onward =
          let o = next_onward i.stands (sym k ∙ z) in
          omega (arith, o.onward, o.within)

      -- the event is refused: v is what `take_event` answers
      pub going_no : (v : Taking) (a p : ℕ) (n'' m'' l'' q'' : List ℕ) → v ≡ No a p
          → TookEvent g s e (four n' m' l' q') v (four n'' m'' l'' q'')
          → Builds place (four n m l q) s (Refused a p) (four n'' m'' l'' q'')
      unfolding build_reading build
      going_no v a p n'' m'' l'' q'' y u =
          let t : take_event (four n' m' l' q') s (building g (four n' m' l' q')) e ≡ no a p = rw y at u in
          ended_no _ a p (Refused a p) (four n m l q) (four n'' m'' l'' q'')
          (left_to-read (stepped e d) z ∙ ap (λ (u : Taken). on_taken u (λ h. build place (four n' m' l' q') s h (reading_from s d).events (reading_from s d).outcome)) t) refl

      -- it is taken
      pub going_on : (v : Taking) (h : Progress) (n'' m'' l'' q'' : List ℕ) → v ≡ On h
          → TookEvent g s e (four n' m' l' q') v (four n'' m'' l'' q'')
          → length n'' ≡ length n' → length m'' ≡ length m' → length l'' ≡ length l' → length q'' ≡ length q'
          → Going place s n m l q n'' m'' l'' q'' d h
      unfolding build_reading build
      going_on v h n'' m'' l'' q'' y w ln lm ll lq =
          let t : TookEvent g s e (four n' m' l' q') (On h) (four n'' m'' l'' q'') = rw y at w in
          let b : Alike (four n' m' l' q') (four n'' m'' l'' q'') = record { nodes = sym ln; names = sym lm; lines = sym ll; pool = sym lq } in
          let a = i.alike in
          record {
            stands = next_stands i.stands (sym k ∙ z);
            marked = (next_parts s c i.marked (sym k ∙ z)).1;
            holds = t.1;
            alike = record { nodes = a.nodes ∙ b.nodes; names = a.names ∙ b.names; lines = a.lines ∙ b.lines; pool = a.pool ∙ b.pool };
            whole = left_to-read (stepped e d) z
                ∙ ap (λ (u : Taken). on_taken u (λ h. build place (four n' m' l' q') s h (reading_from s d).events (reading_from s d).outcome)) t.0
                ∙ build-alike (four n' m' l' q') (four n'' m'' l'' q'') b place s (building h (four n'' m'' l'' q'')) (reading_from s d).events (reading_from s d).outcome;
          }

-- ---- the exits of `fill`: n m l q are the buffers at entry
module _ (how : How) (s n m l q : List ℕ) where
  -- a refusal before the first event: r is what `refused` answers
  module _ (r : Opened) (a : AllClear (four n m l q)) where
    unread : (k p : ℕ) → opening how (four n m l q) s ≡ declined k p → r ≡ told (declined k p)
        → Opens how (four n m l q) s r (four n m l q)
    unfolding left cleared
    unread k p z x = (rw z x, rw z (λ i. record { nodes = a.0 i; names = a.1 i; lines = a.2 i; pool = a.3 i; journal = [] }))

    pub fill-long : script_limit < length s → r ≡ told (declined too_long 0) → Opens how (four n m l q) s r (four n m l q)
    unfolding opening
    fill-long h x = unread too_long 0 (rw (lt-ltb script_limit (length s) h)) x

    pub fill_roomless : length s ≤ script_limit → length n < node_width → r ≡ told (declined no_room 0)
        → Opens how (four n m l q) s r (four n m l q)
    unfolding opening
    fill_roomless h k x = unread no_room 0 (rw (le-ltb script_limit (length s) h, lt-leb node_width (length n) k)) x

  -- row 0 has room
  pub filled_on : (r : Opened) (b' : Buffers) → length s ≤ script_limit → node_width ≤ length n
      → Filled (build_reading how.place (four n m l q) s nothing_yet (reading reld how.place s)) r (four n m l q) b'
      → Opens how (four n m l q) s r b'
  unfolding opening
  filled_on r b' h k t = rw (le-ltb script_limit (length s) h, le-leb node_width (length n) k) t

-- y is what `build` answers, and o what the text opens as
module _ (o : Opening) (y : Built) (n m l q n₁ m₁ l₁ q₁ : List ℕ) (t : Ended o y (four n m l q) (four n₁ m₁ l₁ q₁)) where
  pub fill_done : (u : Counts) → y ≡ Done u → Filled o (record { refusal = 0; place = 0; counts = u }) (four n m l q) (four n₁ m₁ l₁ q₁)
  unfolding told left
  fill_done u z = go o t
    where
      go : (o : Opening) → Ended o y (four n m l q) (four n₁ m₁ l₁ q₁) → Filled o (record { refusal = 0; place = 0; counts = u }) (four n m l q) (four n₁ m₁ l₁ q₁)
      go (opens w) v =
          let f : u ≡ counts_of w = cc v.0 in
          (ap (λ (i : Counts). record { refusal = 0; place = 0; counts = i }) f, v.1)
      go (declined k p) v = absurd (true≢false (cc))

  -- r is what `refused` answers, behind the clearing
  pub fill-refused : (i p : ℕ) (r : Opened) (n' m' l' q' : List ℕ) → y ≡ Refused i p → r ≡ told (declined i p) → Cleared (four n₁ m₁ l₁ q₁) (four n' m' l' q')
      → length n₁ ≡ length n → length m₁ ≡ length m → length l₁ ≡ length l → length q₁ ≡ length q → Filled o r (four n m l q) (four n' m' l' q')
  unfolding left cleared
  fill-refused i p r n' m' l' q' z x c ln lm ll lq = go o t
    where
      go : (o : Opening) → Ended o y (four n m l q) (four n₁ m₁ l₁ q₁) → Filled o r (four n m l q) (four n' m' l' q')
      go (opens w) v = let f = v.0 in absurd (true≢false (cc))
      go (declined f g) v =
          let u : declined i p ≡ declined f g = cc in
          (x ∙ ap told u, rw (c.nodes, c.names, c.lines, c.pool, ln, lm, ll, lq))

-- ---- the exit of `open`: n m l q j are the buffers as they are lent, and n₀ m₀ l₀ q₀ j₀ as they are cleared
empty : (l : List ℕ) → length l ≤ 0 → l ≡ []
empty [] h = refl
empty (x ∷ l) h = absurd (omega arith)

long : (u v : List ℕ) → u ≡ zeros (length v) → length u ≡ length v
long u v z = ap length z ∙ length-replicate (length v) 0

-- what `fill` asks of the buffers
pub clear_now : (n m l q n₀ m₀ l₀ q₀ : List ℕ) → Cleared (four n m l q) (four n₀ m₀ l₀ q₀) → AllClear (four n₀ m₀ l₀ q₀)
clear_now n m l q n₀ m₀ l₀ q₀ c = (
  c.nodes ∙ ap zeros (sym (long n₀ n c.nodes)),
  c.names ∙ ap zeros (sym (long m₀ m c.names)),
  c.lines ∙ ap zeros (sym (long l₀ l c.lines)),
  c.pool ∙ ap zeros (sym (long q₀ q c.pool)),
)

module _ (how : How) (n m l q j s n₀ m₀ l₀ q₀ j₀ : List ℕ) (c : Cleared (four n m l q) (four n₀ m₀ l₀ q₀)) (d : j₀ ≡ zeros (length j)) (r : Opened) where
  module _ (n₁ m₁ l₁ q₁ : List ℕ) where
    -- the layout in the cleared buffers is that in the lent ones, and a book that is opened has no edits
    laid-again : (w : Book) → four n₁ m₁ l₁ q₁ ≡ laid_out (four n₀ m₀ l₀ q₀) w → five n₁ m₁ l₁ q₁ j₀ ≡ laid_out (five n m l q j) w
    unfolding laid_out
    laid-again w e =
        let f : [] ≡ pad 0 (rows edit_form 0 w.edits) = ap (λ (x : Buffers). x.journal) e in
        let g : rows edit_form 0 w.edits ≡ [] = empty (rows edit_form 0 w.edits) (pad-fits [] (rows edit_form 0 w.edits) f) in
        ap (five n₁ m₁ l₁ q₁) (d ∙ pad-nil (length j) ∙ ap (pad (length j)) (sym g))
        ∙ ap (λ (x : Buffers). five x.nodes x.names x.lines x.pool (pad (length j) (rows edit_form 0 w.edits))) e
        ∙ rw (long n₀ n c.nodes, long m₀ m c.names, long l₀ l c.lines, long q₀ q c.pool)

    filled_again : (o : Opening) → Filled o r (four n₀ m₀ l₀ q₀) (four n₁ m₁ l₁ q₁) → (r ≡ told o) × (five n₁ m₁ l₁ q₁ j₀ ≡ left (five n m l q j) o)
    unfolding left cleared
    filled_again (opens w) v = (v.0, laid-again w v.1)
    filled_again (declined k p) v = (
      v.0,
      ap (λ (x : Buffers). five x.nodes x.names x.lines x.pool j₀) v.1
          ∙ rw (d, long n₀ n c.nodes, long m₀ m c.names, long l₀ l c.lines, long q₀ q c.pool),
    )

    -- what `fill` leaves
    pub open_filled : Opens how (four n₀ m₀ l₀ q₀) s r (four n₁ m₁ l₁ q₁) → Opens how (five n m l q j) s r (five n₁ m₁ l₁ q₁ j₀)
    open_filled t =
        let a : Alike (five n m l q j) (four n₀ m₀ l₀ q₀) = record {
          nodes = sym (long n₀ n c.nodes);
          names = sym (long m₀ m c.names);
          lines = sym (long l₀ l c.lines);
          pool = sym (long q₀ q c.pool);
        } in
        rw (opening-alike (five n m l q j) (four n₀ m₀ l₀ q₀) a how s) (filled_again (opening how (four n₀ m₀ l₀ q₀) s) t)
