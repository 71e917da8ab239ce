-- How many edits a history leaves to be undone, in which no settle drops a line: as many as its calls did (`edits_left`), and undoing them leads to the moment
-- of its beginning. Assumes nothing.
use Prim.Native.Nat.{ℕ, ◌+◌, ◌-◌}
use mathlib.Core.Path.{◌≡◌, refl, sym, ap, subst, ◌∙◌}
use mathlib.Core.List.{List, [], ◌∷◌, ◌++◌}
use mathlib.Core.Bool.{Bool, true, false, cond, not, ◌&&◌, true≢false}
use Rattle.std.specs.Prelude.{Option, Some, None}
use native.Mathlib.Omega.{arith}
use borrow.Author.Tests.{eqb-true}
use lib.Dec.{eqb, ltb}
use lib.ListN.{length, take, length-take}
use Rattle.linker_script.specs.Parts.{part}
use Rattle.linker_script.specs.Trim.{trim_end}
use Rattle.numbers.specs.Editions.{reld}
use Rattle.numbers.specs.declared.Edition.{Edition}
use Rattle.numbers.specs.Limits.{over, token_limit}
use Rattle.numbers.specs.Marks.{global}
use Rattle.lists.proofs.Tests.{both}
use Rattle.lists.specs.Each.{every}
use Rattle.storing.specs.Keeping.{Keep, kept, refused, keep}
use Rattle.reading_cursors.specs.declared.Event.{Event}
use Rattle.reading_cursors.specs.declared.Event.TheVariants as event
use Rattle.reading.specs.Events.{Outcome, accepted, refused as unread, reading}
use Rattle.book.specs.Books.{Book, Line, add, book_frame, edition_of, export, no_edits, rust, strike, with_lines}
use Rattle.book.specs.Edits.{line_at, stands, take_back}
use Rattle.book.specs.Layout.{Buffers}
use Rattle.book.specs.View.{view}
use Rattle.book_rooms.specs.Rooms.{edit_room, line_room}
use Rattle.trial.specs.Changes.{Change, to, no, edit_refusal, edited}
use Rattle.trial.specs.Trial.{add_asked, append, append_kept, latest, may_stand, settle_asked, settled, standing}
use Rattle.trial.specs.Trial.{strike_asked, strike_line, undo_asked, without_latest}
use Rattle.trial.specs.Symbols.{add_event, add_events, add_reading, added_all, on_change, symbol_asked, symbol_place}
use Rattle.histories.specs.Histories.{Call, adds, adds_symbol, strikes, undoes, settles, Lent, Desk, answer, change, history, lent_after, run}
use Rattle.histories.specs.Histories.{back_to, follow, leads, settled_to, with_event, with_events, with_kept}
use Rattle.histories.specs.Histories.{drops, edits_after, edits_left, line_events, nothing_dropped}
use Rattle.histories.proofs.Asked.{book_with}
use Rattle.histories.proofs.Trails.{length_last, trail-length}
use Rattle.histories.proofs.Calls.{Held, Leads, declined, done, seen}
use Rattle.histories.proofs.EachCall.{change-leads, held_after}

-- ---- what a change comes to has n edits
data EditsOf (n : ℕ) : Change → Type 0 where
  has : {w : Book} → length w.edits ≡ n → EditsOf n (to w)
  none_made : {m : ℕ} → EditsOf n (no m)

edits_if : {n : ℕ} (t : Bool) {x y : Change} → EditsOf n x → EditsOf n y → EditsOf n (cond t x y)
edits_if true f g = f
edits_if false f g = g

edits_same : {n m : ℕ} {c : Change} → n ≡ m → EditsOf n c → EditsOf m c
edits_same {c = c} e = subst (λ (k : ℕ). EditsOf k c) e

-- ---- a line, and those of a text
append-edits : (a : Buffers) (w : Book) (node section language : ℕ) (K : Keep) → EditsOf (length w.edits + 1) (append_kept a w node section language K)
unfolding append_kept
append-edits a w node section language (kept k bs) =
    edits_if (line_room a w.lines bs && edit_room a w.edits) (has (length_last w.edits (record { what = add; line = length w.lines }))) none_made
append-edits a w node section language (refused n) = none_made

on_edits : {n m : ℕ} {c : Change} (f : Book → Change) → EditsOf n c → ((w : Book) → length w.edits ≡ n → EditsOf m (f w)) → EditsOf m (on_change c f)
on_edits f (has {w} e) more = more w e
on_edits f none_made more = none_made

all_edits : (w : Book) (o : Outcome) → EditsOf (length w.edits + 0) (added_all w o)
all_edits w accepted = has {w = w} (omega arith)
all_edits w (unread n p) = none_made

module _ (a : Buffers) (s : List ℕ) (o : Outcome) where
  events-edits : (xs : List Event) (w : Book) → EditsOf (length w.edits + line_events xs) (add_events a s w xs o)
  unfolding add_events add_event append line_events
  events-edits [] w = all_edits w o
  events-edits (event.Node p n ∷ xs) w = edits_same (omega arith) (events-edits xs w)
  events-edits (event.Body ∷ xs) w = edits_same (omega arith) (events-edits xs w)
  events-edits (event.Section section ∷ xs) w = edits_same (omega arith) (events-edits xs w)
  events-edits (event.Extern section language ∷ xs) w = edits_same (omega arith) (events-edits xs w)
  events-edits (event.Closed ∷ xs) w = edits_same (omega arith) (events-edits xs w)
  events-edits (event.Line section language p n ∷ xs) w =
      on_edits (λ v. add_events a s v xs o) (append-edits a w 0 global language (keep (edition_of (book_frame w)) (part s p n)))
      (λ v e. edits_same (omega arith) (events-edits xs v))
  events-edits (event.Parent p n ∷ xs) w = edits_same (omega arith) (events-edits xs w)

-- ---- each call of a book that is there
without-edits : (w : Book) (o : Option (List Line)) → EditsOf (length w.edits - 1) (without_latest w o)
unfolding without_latest
without-edits w (Some ls) =
    let n : length (take (length w.edits - 1) w.edits) ≡ length w.edits - 1 = simp length-take (omega arith) in
    has n
without-edits w None = none_made

settled-edits : (w : Book) → not (every stands w.lines) ≡ false → length (settled w).edits ≡ length w.edits
unfolding settled
settled-edits w m = go (every stands w.lines) m
  where
    go : (t : Bool) → not t ≡ false → length (cond t w (with_lines w (standing w.lines))).edits ≡ length w.edits
    go true e = refl
    go false e = absurd (true≢false e)

change-edits : (x : Lent) (w : Book) → view x.counts x.buffers ≡ Some w → (k : Call) → drops w.lines k ≡ false
    → EditsOf (edits_after (length w.edits) k) (change x k)
unfolding change add_asked append strike_asked strike_line undo_asked settle_asked symbol_asked add_reading
change-edits x w v (adds node section language t) n =
    rw v (edits_if (eqb w.kind rust) none_made (edits_if (may_stand w node section language)
    (append-edits x.buffers w node section language (keep (edition_of (book_frame w)) (trim_end t))) none_made))
change-edits x w v (strikes i) n =
    rw v (edits_if (eqb w.kind rust) none_made (edits_if (ltb i (length w.lines) && stands (line_at w.lines i))
    (edits_if (edit_room x.buffers w.edits) (has (length_last w.edits (record { what = strike; line = i }))) none_made) none_made))
change-edits x w v undoes n = rw v (edits_if (no_edits w.edits) none_made (without-edits w (take_back (latest w.edits) w.lines)))
change-edits x w v settles n = rw v (has (settled-edits w n))
change-edits x w v (adds_symbol t bare) n =
    let r = reading reld (symbol_place bare) t in
    rw v (edits_if (eqb w.kind export) (edits_if (over token_limit t) none_made (events-edits x.buffers t r.outcome r.events w)) none_made)

leads-edits : {b : Buffers} {w : Book} {d : Desk} {c : Change} {n : ℕ} → Leads b w d c → EditsOf n c → edit_refusal (edited c) ≡ 0 → length d.earlier ≡ n
unfolding edited
leads-edits (done es g) (has e) z = sym (trail-length g.trail) ∙ e
leads-edits (declined f) none_made z = absurd (f z)

-- ---- the moment stays
events-moment : (e : Edition) (s : List ℕ) (d : Desk) (xs : List Event) → (with_events e s d xs).moment ≡ d.moment
unfolding with_events
events-moment e s d [] = refl
events-moment e s d (x ∷ xs) = events-moment e s (with_event e s d x) xs ∙ event_moment x
  where
    kept-moment : (language : ℕ) (K : Keep) → (with_kept d 0 global language K).moment ≡ d.moment
    kept-moment language (kept k bs) = refl
    kept-moment language (refused n) = refl

    event_moment : (x : Event) → (with_event e s d x).moment ≡ d.moment
    event_moment (event.Node p n) = refl
    event_moment event.Body = refl
    event_moment (event.Section section) = refl
    event_moment (event.Extern section language) = refl
    event_moment event.Closed = refl
    event_moment (event.Line section language p n) = kept-moment language (keep e (part s p n))
    event_moment (event.Parent p n) = refl

follow-moment : (e : Edition) (d : Desk) (k : Call) → drops d.lines k ≡ false → (follow e d k).moment ≡ d.moment
unfolding follow
follow-moment e d (adds node section language t) n = go (keep e (trim_end t))
  where
    go : (K : Keep) → (with_kept d node section language K).moment ≡ d.moment
    go (kept k bs) = refl
    go (refused n) = refl
follow-moment e d (strikes i) n = refl
follow-moment e d undoes n = go d.earlier
  where
    go : (ls : List (List Line)) → (back_to d ls).moment ≡ d.moment
    go [] = refl
    go (l ∷ ls) = refl
follow-moment e d settles n = go (every stands d.lines) n
  where
    go : (t : Bool) → not t ≡ false → (settled_to t d).moment ≡ d.moment
    go true m = refl
    go false m = absurd (true≢false m)
follow-moment e d (adds_symbol t bare) n = events-moment e t d (reading reld (symbol_place bare) t).events

-- ---- a call, and a history
not_true : (t : Bool) → not t ≡ true → t ≡ false
not_true true e = absurd (true≢false (sym e))
not_true false e = refl

module _ (b : Buffers) (w : Book) (k : eqb w.kind rust ≡ false) where
  abbrev how_read : Edition
  how_read = edition_of (book_frame w)

  -- the desk d and then d', with n edits to undo
  abbrev SameMoment : Desk → Desk → ℕ → Type 0
  SameMoment d d' n = (d'.moment ≡ d.moment) × (length d'.earlier ≡ n)

  call-counted : (d : Desk) (x : Lent) → Held b w d x → (c : Call) → not (eqb (answer x c) 0 && drops d.lines c) ≡ true
      → SameMoment d (cond (eqb (answer x c) 0) (follow how_read d c) d)
      (cond (eqb (answer x c) 0) (edits_after (length d.earlier) c) (length d.earlier))
  unfolding answer
  call-counted d x h c m = go (eqb (answer x c) 0) refl m
    where
      go : (t : Bool) → eqb (answer x c) 0 ≡ t → not (t && drops d.lines c) ≡ true
          → SameMoment d (cond t (follow how_read d c) d) (cond t (edits_after (length d.earlier) c) (length d.earlier))
      go true e f =
          let z = not_true (drops d.lines c) f in
          let n = change-edits x (book_with w d.lines h.edits) (seen b w d x h) c z in (
            follow-moment how_read d c z,
            leads-edits (change-leads b w k d x h c) n (eqb-true _ _ e)
                ∙ ap (λ (i : ℕ). edits_after i c) (trail-length h.sound.trail),
          )
      go false e f = (refl, refl)

  pub run-counted : (cs : List Call) (d : Desk) (x : Lent) → Held b w d x → nothing_dropped how_read d (history x cs) ≡ true
      → SameMoment d (leads how_read d (history x cs)) (edits_left (length d.earlier) (history x cs))
  unfolding nothing_dropped edits_left leads history
  run-counted [] d x h m = (refl, refl)
  run-counted (c ∷ cs) d x h m =
      let i = both (not (eqb (answer x c) 0 && drops d.lines c)) _ m in
      let s = call-counted d x h c i.0 in
      let r = run-counted cs (cond (eqb (answer x c) 0) (follow how_read d c) d) (lent_after x c) (held_after b w k d x h c) i.1 in
      (r.0 ∙ s.0, r.1 ∙ ap (λ (n : ℕ). edits_left n (history (lent_after x c) cs)) s.1)

-- ---- calls behind calls
pub run_on : (x : Lent) (cs ds : List Call) → run x (cs ++ ds) ≡ run (run x cs) ds
unfolding run
run_on x [] ds = refl
run_on x (c ∷ cs) ds = run_on (lent_after x c) cs ds

pub leads_on : (e : Edition) (d : Desk) (x : Lent) (cs ds : List Call)
    → leads e d (history x (cs ++ ds)) ≡ leads e (leads e d (history x cs)) (history (run x cs) ds)
unfolding leads history run
leads_on e d x [] ds = refl
leads_on e d x (c ∷ cs) ds = leads_on e (cond (eqb (answer x c) 0) (follow e d c) d) (lent_after x c) cs ds
