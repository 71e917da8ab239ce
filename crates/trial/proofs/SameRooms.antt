-- What an added line or the lines of a text make of a book looks at the rooms of the buffers alone. Assumes nothing.
use Prim.Native.Nat.{ℕ}
use mathlib.Core.Path.{◌≡◌, refl}
use mathlib.Core.List.{List}
use Rattle.linker_script.specs.Parts.{part}
use Rattle.numbers.specs.Marks.{global}
use Rattle.storing.specs.Keeping.{Keep, kept, refused, keep}
use Rattle.reading_cursors.specs.declared.Event.{Event}
use Rattle.reading_cursors.specs.declared.Event.TheVariants.{Node, Body, Section, Extern, Closed, Line, Parent}
use Rattle.book.specs.Books.{Book, Edit, book_frame, edition_of}
use Rattle.book.specs.Books as book
use Rattle.book.specs.Layout.{Buffers}
use Rattle.book.proofs.Views.{Rooms}
use Rattle.book_rooms.specs.Rooms.{edit_room, line_room}
use Rattle.trial.specs.Trial.{append, append_kept}
use Rattle.trial.specs.Symbols.{add_event}

module _ (a b : Buffers) (e : Rooms a b) where
  pub line_room_same : (ls : List book.Line) (bs : List ℕ) → line_room a ls bs ≡ line_room b ls bs
  unfolding line_room
  line_room_same ls bs = rw (e.lines, e.pool)

  pub edit_room_same : (es : List Edit) → edit_room a es ≡ edit_room b es
  unfolding edit_room
  edit_room_same es = rw e.journal

  kept_same : (w : Book) (node section language : ℕ) (k : Keep) → append_kept a w node section language k ≡ append_kept b w node section language k
  unfolding append_kept
  kept_same w node section language (kept k bs) = rw (line_room_same w.lines bs, edit_room_same w.edits)
  kept_same w node section language (refused n) = refl

  pub event_same : (s : List ℕ) (w : Book) (x : Event) → add_event a s w x ≡ add_event b s w x
  unfolding add_event append
  event_same s w (Node p n) = refl
  event_same s w Body = refl
  event_same s w (Section section) = refl
  event_same s w (Extern section language) = refl
  event_same s w Closed = refl
  event_same s w (Line section language p n) = kept_same w 0 global language (keep (edition_of (book_frame w)) (part s p n))
  event_same s w (Parent p n) = refl
