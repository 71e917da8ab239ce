-- `add_symbol` is done where the text is read to its end, its lines are all kept, and there is room for all of them. Assumes nothing.
use Prim.Native.Nat.{ℕ}
use mathlib.Core.Path.{◌≡◌, refl}
use mathlib.Core.List.{List, [], ◌∷◌}
use mathlib.Core.Bool.{true, true≢false}
use Rattle.std.specs.Prelude.{Option, Some, None}
use Rattle.linker_script.specs.Parts.{part}
use Rattle.numbers.specs.Marks.{global}
use Rattle.lists.proofs.Tests.{both}
use Rattle.classes.specs.Classes.{class_number}
use Rattle.storing.specs.Keeping.{Keep, kept, refused, keep}
use Rattle.reading_cursors.specs.declared.Event.{Event}
use Rattle.reading_cursors.specs.declared.Event.TheVariants as event
use Rattle.reading.specs.Events.{accepted}
use Rattle.book.specs.Books.{Book, Line, book_frame, edition_of, new_line}
use Rattle.book.specs.Layout.{Buffers}
use Rattle.book.proofs.Views.{Rooms}
use Rattle.book_rooms.specs.Rooms.{edit_room, line_room}
use Rattle.trial.specs.Changes.{edit_refusal, edited}
use Rattle.trial.specs.Trial.{append, append_kept, with_line}
use Rattle.trial.specs.Symbols.{add_event, add_events, on_change}
use Rattle.trial.proofs.SameRooms.{edit_room_same, line_room_same}
use Rattle.histories.specs.Demand.{all_room, line_kept, lines_kept}

module _ (a b : Buffers) (r : Rooms a b) (s : List ℕ) where
  -- what follows the events so far is done
  abbrev RestDone : List Event → Type 0
  RestDone xs =
      (w : Book) (ls : List Line) → lines_kept (edition_of (book_frame w)) s xs ≡ Some ls → all_room b w.lines w.edits ls ≡ true
      → edit_refusal (edited (add_events a s w xs accepted)) ≡ 0

  line-done : (w : Book) (language : ℕ) (t : List ℕ) (xs : List Event) → RestDone xs → (K : Keep) → keep (edition_of (book_frame w)) t ≡ K
      → (o : Option (List Line)) → lines_kept (edition_of (book_frame w)) s xs ≡ o → (ls : List Line) → line_kept language K o ≡ Some ls
      → all_room b w.lines w.edits ls ≡ true
      → edit_refusal (edited (on_change (append a w 0 global language t) (λ v. add_events a s v xs accepted))) ≡ 0
  unfolding append append_kept all_room
  line-done w language t xs more (kept k bs) q (Some ls) z all e m =
      let x : Line = new_line 0 global language (class_number k) bs in
      let f : all ≡ x ∷ ls = cc in
      let i = both (line_room b w.lines bs) _ (rw f at m) in
      let j = both (edit_room b w.edits) _ i.1 in
      rw (q, line_room_same a b r w.lines bs, i.0, edit_room_same a b r w.edits, j.0) (more (with_line w x) ls z j.1)
  line-done w language t xs more (kept k bs) q None z all e m = absurd (true≢false (cc))
  line-done w language t xs more (refused n) q o z all e m = absurd (true≢false (cc))

  pub events-done : (xs : List Event) → RestDone xs
  unfolding add_events add_event lines_kept edited
  events-done [] w ls q m = refl
  events-done (event.Node p n ∷ xs) w ls q m = events-done xs w ls q m
  events-done (event.Body ∷ xs) w ls q m = events-done xs w ls q m
  events-done (event.Section section ∷ xs) w ls q m = events-done xs w ls q m
  events-done (event.Extern section language ∷ xs) w ls q m = events-done xs w ls q m
  events-done (event.Closed ∷ xs) w ls q m = events-done xs w ls q m
  events-done (event.Line section language p n ∷ xs) w ls q m =
      line-done w language (part s p n) xs (events-done xs) (keep (edition_of (book_frame w)) (part s p n)) refl
      (lines_kept (edition_of (book_frame w)) s xs) refl ls q m
  events-done (event.Parent p n ∷ xs) w ls q m = events-done xs w ls q m
