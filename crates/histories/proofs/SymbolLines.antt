-- "`add_symbol` on an export list is one add per line, all or none": the lines of its text lead from desk to desk, along the reading. Assumes nothing.
use Prim.Native.Nat.{ℕ, zero, suc, ◌+◌, ◌-◌}
use mathlib.Core.Path.{◌≡◌, refl}
use mathlib.Core.List.{List}
use mathlib.Core.Bool.{Bool, false}
use Rattle.std.specs.Prelude.{Some, None, Ok, Err}
use native.Mathlib.Omega.{arith}
use lib.Dec.{eqb, ltb}
use lib.ListN.{length}
use Rattle.linker_script.specs.Parts.{part}
use Rattle.numbers.specs.Editions.{reld}
use Rattle.numbers.specs.Limits.{token_limit}
use Rattle.numbers.specs.Marks.{global}
use Rattle.lists.proofs.Tests.{both}
use Rattle.storing.specs.Keeping.{keep}
use Rattle.numbers.specs.Saying.{number}
use Rattle.reading_cursors.specs.declared.Cursor.{Cursor}
use Rattle.reading_cursors.specs.declared.Event.{Event}
use Rattle.reading_cursors.specs.declared.Event.TheVariants.{Node, Body, Section, Extern, Closed, Line, Parent}
use Rattle.reading_cursors.specs.Moves.{Step, start}
use Rattle.reading.specs.Scripts.{next}
use Rattle.reading.specs.Events.{Reading, on_step, reading, reading_from, reading_within}
use Rattle.reading.proofs.Parts.{Marked, Parts, line, next_parts, start_marked}
use Rattle.reading.proofs.Refusals.{next_refuses}
use Rattle.book.specs.Books.{Book, Edit, book_frame, edition_of, export, rust}
use Rattle.book.specs.Layout.{Buffers}
use Rattle.book.specs.Sanity.{nodes_good, sane}
use Rattle.book.proofs.Views.{Rooms}
use Rattle.trial.specs.Changes.{Change}
use Rattle.trial.specs.Trial.{append}
use Rattle.trial.specs.Symbols.{add_event, add_events, add_reading, on_change, symbol_asked, symbol_place}
use Rattle.trial.proofs.AddedLines.{some_node}
use Rattle.histories.specs.Histories.{Desk, with_event, with_events}
use Rattle.histories.proofs.Asked.{book_with}
use Rattle.histories.proofs.Numbered.{reader_numbered}
use Rattle.histories.proofs.Calls.{Leads, Sound, append-leads, declined, done, leads-cond}

module _ (a b : Buffers) (r : Rooms a b) (w : Book) (k : eqb w.kind rust ≡ false) (s : List ℕ) where
  -- what a change leads to, and then another
  on_leads : (d d' : Desk) (c : Change) (f : Book → Change) → Leads b w d c
      → ((es : List Edit) → Sound b w d es → Leads b w d' (f (book_with w d.lines es))) → Leads b w d' (on_change c f)
  on_leads d d' c f (done es g) more = more es g
  on_leads d d' c f (declined z) more = declined z

  -- the line of an event
  event_leads : (d : Desk) (es : List Edit) → Sound b w d es → (x : Event) → Parts s x
      → Leads b w (with_event (edition_of (book_frame w)) s d x) (add_event a s (book_with w d.lines es) x)
  unfolding add_event append sane
  event_leads d es g (Node p n) h = done es g
  event_leads d es g Body h = done es g
  event_leads d es g (Section section) h = done es g
  event_leads d es g (Extern section language) h = done es g
  event_leads d es g Closed h = done es g
  event_leads d es g (Line section language p n) (line m h q) =
      let i = some_node w.nodes (both (nodes_good w.nodes) _ g.viewable.sane).0 in
      append-leads a b r w k d es g 0 global language i (omega arith) m.language (λ _. refl) (part s p n) (keep (edition_of (book_frame w)) (part s p n)) refl
  event_leads d es g (Parent p n) h = done es g

  -- the events of a reading, each behind the other
  abbrev Along : Reading → Type 0
  Along q =
      (d : Desk) (es : List Edit) → Sound b w d es
      → Leads b w (with_events (edition_of (book_frame w)) s d q.events) (add_reading a s (book_with w d.lines es) q)

  -- with at most n of them
  along : (n : ℕ) (c : Cursor) → Marked c → Along (reading_within n s c)
  unfolding reading_within add_reading add_events with_events
  along zero c m = λ d es g. done es g
  along (suc n) c m = go (next s c) refl (along n)
    where
      go : (q : Step) → next s c ≡ q → ((c : Cursor) → Marked c → Along (reading_within n s c)) → Along (on_step q (λ c'. reading_within n s c'))
      go (Ok (Some (x, c'))) z more d es g =
          let p = next_parts s c m z in
          let d' : Desk = with_event (edition_of (book_frame w)) s d x in
          on_leads d' _ (add_event a s (book_with w d.lines es) x) _ (event_leads d es g x p.0) (λ fs o. more c' p.1 d' fs o)
      go (Ok None) z more d es g = done es g
      go (Err r) z more d es g = declined (reader_numbered (number r.refusal) (next_refuses s c {n = r.refusal} {p = r.place} z).0)

  pub symbol-leads : (bare : Bool) (d : Desk) (es : List Edit) → Sound b w d es
      → Leads b w (with_events (edition_of (book_frame w)) s d (reading reld (symbol_place bare) s).events) (symbol_asked a (Some (book_with w d.lines es)) s bare)
  unfolding symbol_asked reading reading_from
  symbol-leads bare d es g =
      let c : Cursor = start reld (symbol_place bare) in
      leads-cond (eqb w.kind export)
      (λ _. leads-cond (ltb token_limit (length s)) (λ _. declined (λ h. omega arith)) (along (length s + 2 - c.at) c (start_marked reld (symbol_place bare)) d es g))
      (declined (λ h. omega arith))
