-- Demand 3 (specs/Demand.antt): an opened book is held by its counts and buffers, each history leads on from there, and what is held answers, goes back and
-- makes room as the demand says. Assumes nothing.
use Prim.Native.Nat.{ℕ, ◌<◌}
use mathlib.Core.Path.{◌≡◌, refl, sym, ap, subst, ◌∙◌}
use mathlib.Core.List.{List, [], ◌∷◌, ◌++◌}
use mathlib.Core.Bool.{Bool, true, false, cond, true≢false}
use Rattle.std.specs.Prelude.{Some}
use borrow.Author.Tests.{lt-ltb}
use lib.Dec.{eqb, leb, ltb}
use lib.ListN.{length}
use Rattle.numbers.specs.Editions.{reld}
use Rattle.numbers.specs.Limits.{over, script_limit, token_limit}
use Rattle.numbers.specs.Refusals.{no_room, too_long}
use Rattle.linker_script.specs.Trim.{trim_end}
use Rattle.lists.specs.Each.{every}
use Rattle.classes.specs.declared.Class.{Class}
use Rattle.storing.specs.Keeping.{kept, keep}
use Rattle.reading_cursors.specs.declared.places.Place.{Place}
use Rattle.reading_cursors.specs.declared.Event.{Event}
use Rattle.reading.specs.Events.{Outcome, accepted, refused, reading}
use Rattle.book.specs.Books.{Book, Edit, Line, book_frame, edition_of, export, rust, with_lines}
use Rattle.book.specs.Edits.{line_at, stands, take_back}
use Rattle.book.specs.Layout.{Buffers, node_width}
use Rattle.book.proofs.Views.{laid_out_same}
use Rattle.book_rooms.specs.Rooms.{edit_room, line_room}
use Rattle.book_building.specs.Building.{Building, Taken, on, no, take_event}
use Rattle.book_opening.specs.declared.How.{How}
use Rattle.book_opening.specs.Opening.{Opening, opens, declined, build, build_reading, finished, left, nothing_yet, on_taken, opening, told}
use Rattle.book_opened.specs.Opened.{opens_at}
use Rattle.book_opened.proofs.Opened.{Viewable, opened-viewable}
use Rattle.trial.specs.Changes.{Change, to, after, counts_after, edited}
use Rattle.trial.specs.Trial.{add_asked, append, append_kept, may_stand, settle_asked, standing, strike_asked, strike_line}
use Rattle.trial.specs.Symbols.{add_reading, symbol_asked, symbol_place}
use Rattle.trial.proofs.SameRooms.{edit_room_same, line_room_same}
use Rattle.histories.specs.Histories.{Call, adds, adds_symbol, settles, strikes, undoes, Lent, Desk, answer, change, history, lent_after, run, undos}
use Rattle.histories.specs.Histories.{desk_at, edits_left, follow, leads, settled_to}
use Rattle.histories.specs.Demand.{BroughtBack, Demand3, Freed, Holds, UndoneAll}
use Rattle.histories.specs.Demand.{all_room, desk_behind, lent_behind, lent_book, lent_opening, lines_kept}
use Rattle.trial.proofs.Standing.{standing_same}
use Rattle.histories.proofs.Asked.{asked-locality, asked-member, asked_version, book_with}
use Rattle.histories.proofs.Trails.{Trail, begins, goes, trail-desk, trail-length}
use Rattle.histories.proofs.Calls.{Held, rooms, seen, undo_is}
use Rattle.histories.proofs.EachCall.{held-run}
use Rattle.histories.proofs.SymbolRooms.{events-done}
use Rattle.histories.proofs.Counted.{leads_on, run-counted}

-- ---- a book that is opened has no edit
module _ (place : Place) (b : Buffers) (s : List ℕ) (w : Book) where
  build-edits : (es : List Event) (o : Outcome) (g : Building) → build place b s g es o ≡ opens w → w.edits ≡ []
  unfolding build
  build-edits [] accepted g e = let z : finished place g ≡ w = cc in ap (λ (u : Book). u.edits) (sym z)
  build-edits [] (refused n p) g e = absurd (true≢false (cc))
  build-edits (x ∷ es) o g e = go (take_event b s g x) (build-edits es o) e
    where
      go : (t : Taken) → ((h : Building) → build place b s h es o ≡ opens w → w.edits ≡ [])
          → on_taken t (λ h. build place b s h es o) ≡ opens w → w.edits ≡ []
      go (on h) more f = more h f
      go (no n p) more f = absurd (true≢false (cc))

module _ (how : How) (b : Buffers) (s : List ℕ) (w : Book) where
  pub opened-edits : opening how b s ≡ opens w → w.edits ≡ []
  unfolding opening build_reading
  opened-edits e = go (ltb script_limit (length s)) (leb node_width (length b.nodes)) e
    where
      go : (x y : Bool)
          → cond x (declined too_long 0) (cond y (build_reading how.place b s nothing_yet (reading reld how.place s)) (declined no_room 0)) ≡ opens w
          → w.edits ≡ []
      go true y f = absurd (true≢false (cc))
      go false false f = absurd (true≢false (cc))
      go false true f =
          let r = reading reld how.place s in
          build-edits how.place b s w r.events r.outcome nothing_yet f

  pub held-opened : Viewable b w → w.edits ≡ [] → Held b w (desk_at w.lines) (lent_book b w)
  held-opened v e =
      let z : w ≡ book_with w w.lines [] = λ i. record { kind = w.kind; nodes = w.nodes; lines = w.lines; edits = e i } in
      record { edits = []; lent = ap (lent_book b) z; sound = record { viewable = subst (Viewable b) z v; trail = begins refl refl } }

-- ---- every edit undone
module _ (b : Buffers) (w : Book) where
  left_by : (d : Desk) (x : Lent) → Held b w d x → (c : Change) (u : Book) → c ≡ to u
      → ◌≡◌ {A = Lent} (record { counts = counts_after x.counts c; buffers = after x.buffers c }) (lent_book b u)
  unfolding counts_after after
  left_by d x h c u e = rw (e, laid_out_same x.buffers b u (rooms b w d x h))

  undo-change : (d : Desk) (x : Lent) (h : Held b w d x) (fs : List Edit) (e : Edit) (before : List Line) → h.edits ≡ fs ++ e ∷ []
      → take_back e d.lines ≡ Some before → change x undoes ≡ to (book_with w before fs)
  unfolding change
  undo-change d x h fs e before z q = rw (seen b w d x h, z) (undo_is w fs e before d.lines q)

  undo_left : (d : Desk) (x : Lent) → Held b w d x → (u : Book) → change x undoes ≡ to u → lent_after x undoes ≡ lent_book b u
  unfolding lent_after
  undo_left d x h u c = left_by d x h (change x undoes) u c

  undone-from : (moment : List Line) {earlier : List (List Line)} {es : List Edit} {ls : List Line} (x : Lent) → Trail b w moment earlier es ls
      → Viewable b (book_with w ls es) → x ≡ lent_book b (book_with w ls es) → run x (undos (length earlier)) ≡ lent_book b (with_lines w moment)
  unfolding run undos
  undone-from moment x (begins z e) v q = q ∙ rw (z, e)
  undone-from moment {es = es} {ls = ls} x (goes {earlier = earlier} fs e before z h u t) v q =
      let d : Desk = record { moment = moment; earlier = before ∷ earlier; lines = ls } in
      let y : Held b w d x = record { edits = es; lent = q; sound = record { viewable = v; trail = goes fs e before z h u t } } in
      undone-from moment (lent_after x undoes) t u (undo_left d x y (book_with w before fs) (undo-change d x y fs e before z h))

-- ---- an add that has room
module _ (b : Buffers) (w : Book) (k : eqb w.kind rust ≡ false) (d : Desk) (x : Lent) (h : Held b w d x) where
  abbrev book_now : Book
  book_now = book_with w d.lines h.edits

  stands_now : (node section language : ℕ) → may_stand w node section language ≡ true → may_stand book_now node section language ≡ true
  unfolding may_stand
  stands_now node section language m = m

  add_done : (node section language : ℕ) (t bs : List ℕ) (c : Class) → may_stand w node section language ≡ true
      → keep (edition_of (book_frame w)) (trim_end t) ≡ kept c bs → line_room b d.lines bs ≡ true → edit_room b h.edits ≡ true
      → answer x (adds node section language t) ≡ 0
  unfolding answer change add_asked append append_kept edited
  add_done node section language t bs c m q l e =
      let r = rooms b w d x h in
      rw (
        seen b w d x h,
        k,
        stands_now node section language m,
        q,
        line_room_same x.buffers b r d.lines bs,
        l,
        edit_room_same x.buffers b r h.edits,
        e,
      )

  strike-done : (i : ℕ) → i < length d.lines → stands (line_at d.lines i) ≡ true → edit_room b h.edits ≡ true → answer x (strikes i) ≡ 0
  unfolding answer change strike_asked strike_line edited
  strike-done i j s e = rw (seen b w d x h, k, lt-ltb _ _ j, s, edit_room_same x.buffers b (rooms b w d x h) h.edits, e)

  symbols-done : (t : List ℕ) (bare : Bool) (ls : List Line) → eqb w.kind export ≡ true → over token_limit t ≡ false
      → (reading reld (symbol_place bare) t).outcome ≡ accepted
      → lines_kept (edition_of (book_frame w)) t (reading reld (symbol_place bare) t).events ≡ Some ls → all_room b d.lines h.edits ls ≡ true
      → answer x (adds_symbol t bare) ≡ 0
  unfolding answer change symbol_asked add_reading
  symbols-done t bare ls z n o q m =
      rw (seen b w d x h, z, n, o) (events-done x.buffers b (rooms b w d x h) t (reading reld (symbol_place bare) t).events book_now ls q m)

-- ---- behind a settle
module _ (b : Buffers) (w : Book) (k : eqb w.kind rust ≡ false) (d : Desk) (x : Lent) (h : Held b w d x) where
  abbrev settled_desk : Desk
  settled_desk = settled_to (every stands d.lines) d

  settle-answer : answer x settles ≡ 0
  unfolding answer change settle_asked edited
  settle-answer = rw (seen b w d x h)

  settled_lines : settled_desk.lines ≡ standing d.lines
  settled_lines = go (every stands d.lines) refl
    where
      go : (y : Bool) → every stands d.lines ≡ y → (settled_to y d).lines ≡ standing d.lines
      go true e = sym (standing_same d.lines e)
      go false e = refl

  settled-empty : every stands d.lines ≡ false → settled_desk.earlier ≡ []
  settled-empty e = rw e

  -- ---- the demand, of what is held
  pub holds : Holds b w x d
  holds = record {
    edits = h.edits;
    held = seen b w d x h;
    undoable = trail-length h.sound.trail;
    same_desk = trail-desk h.sound.trail;
    version = λ n v. rw (seen b w d x h) (asked_version w d.lines h.edits n k v);
    locality = λ n. rw (seen b w d x h) (asked-locality w d.lines h.edits n k);
    member = λ n. rw (seen b w d x h) (asked-member w d.lines h.edits n);
    undone = undone-from b w d.moment x h.sound.trail h.sound.viewable h.lent;
    added = add_done b w k d x h;
    struck = strike-done b w k d x h;
    symbols = symbols-done b w k d x h;
  }

-- ---- the theorem
pub lent-opened : (b : Buffers) (o : Opening) (w : Book) → o ≡ opens w → lent_opening b o ≡ lent_book b w
unfolding told left
lent-opened b o w e = rw e

module _ (how : How) (b : Buffers) (s : List ℕ) (w : Book) (o : opens_at how ≡ true) (e : opening how b s ≡ opens w) (k : eqb w.kind rust ≡ false) where
  held_behind : (ks : List Call) → Held b w (desk_behind how b s w ks) (lent_behind how b s ks)
  held_behind ks =
      let h = held-opened how b s w (opened-viewable how b s w o e) (opened-edits how b s w e) in
      let z = sym (lent-opened b (opening how b s) w e) in
      held-run b w k ks (desk_at w.lines) (lent_opening b (opening how b s)) (subst (Held b w (desk_at w.lines)) z h)

  behind : (ks : List Call) → Holds b w (lent_behind how b s ks) (desk_behind how b s w ks)
  behind ks = holds b w k (desk_behind how b s w ks) (lent_behind how b s ks) (held_behind ks)

  desk_on : (ks ls : List Call)
      → desk_behind how b s w (ks ++ ls) ≡ leads (edition_of (book_frame w)) (desk_behind how b s w ks) (history (lent_behind how b s ks) ls)
  desk_on ks ls = leads_on (edition_of (book_frame w)) (desk_at w.lines) (lent_opening b (opening how b s)) ks ls

  desk-settled : (ks : List Call)
      → desk_behind how b s w (ks ++ settles ∷ []) ≡ settled_desk b w k (desk_behind how b s w ks) (lent_behind how b s ks) (held_behind ks)
  unfolding leads history follow
  desk-settled ks = desk_on ks (settles ∷ []) ∙ rw (settle-answer b w k (desk_behind how b s w ks) (lent_behind how b s ks) (held_behind ks))

pub demand_3 : Demand3
demand_3 how b s w ks o e k = behind how b s w o e k ks

pub freed : Freed
freed how b s w ks o e k =
    let d = desk_behind how b s w ks in
    let h = held_behind how b s w o e k ks in
    let z = desk-settled how b s w o e k ks in (
      rw z (settled_lines b w k d (lent_behind how b s ks) h),
      λ n. rw z (settled-empty b w k d (lent_behind how b s ks) h n),
    )

pub brought_back : BroughtBack
unfolding run undos
brought_back how b s w ks ls o e k none same =
    let then : run (lent_behind how b s ks) [] ≡ lent_book b (with_lines w (desk_behind how b s w ks).moment)
    = rw none at (behind how b s w o e k ks).undone in
    (behind how b s w o e k (ks ++ ls)).undone ∙ rw same (sym then)

pub undone_all : UndoneAll
undone_all how b s w ks ls o e k none whole =
    let d = desk_behind how b s w ks in
    let y = lent_behind how b s ks in
    let r = run-counted b w k ls d y (held_behind how b s w o e k ks) whole in
    let z = desk_on how b s w o e k ks ls in
    let n : length (desk_behind how b s w (ks ++ ls)).earlier ≡ edits_left 0 (history y ls)
    = ap (λ (i : Desk). length i.earlier) z ∙ r.1 ∙ ap (λ (i : List (List Line)). edits_left (length i) (history y ls)) none in
    ap (λ (i : ℕ). run (lent_behind how b s (ks ++ ls)) (undos i)) (sym n) ∙ brought_back how b s w ks ls o e k none (rw z r.0)
