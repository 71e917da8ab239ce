-- Demand 3, as a theorem about the definitions that the public functions promise. "Open a book on an accepted Regular script or export list, then add, strike,
-- undo and settle in any sequence, refused calls included." Assumes nothing.
use Rattle.std.specs.Prelude.{ℕ, ◌<◌, ◌≡◌, List, [], ◌∷◌, ◌++◌, Bool, true, false, ◌&&◌, eqb, length, Option, Some, None}
use Rattle.linker_script.specs.Parts.{part}
use Rattle.numbers.specs.Editions.{reld}
use Rattle.numbers.specs.Limits.{over, token_limit}
use Rattle.numbers.specs.Marks.{global}
use Rattle.numbers.specs.declared.Edition.{Edition}
use Rattle.classes.specs.declared.Class.{Class}
use Rattle.classes.specs.Classes.{class_number}
use Rattle.storing.specs.Keeping.{Keep, kept, refused, keep}
use Rattle.linker_script.specs.Trim.{trim_end}
use Rattle.reading_cursors.specs.declared.Event.{Event}
use Rattle.reading.specs.Events.{accepted, reading}
use Rattle.book.specs.Books.{Book, Edit, Line, add, book_frame, edition_of, export, new_line, rust, with_lines}
use Rattle.lists.specs.Each.{every}
use Rattle.book.specs.Edits.{line_at, stands}
use Rattle.book.specs.Layout.{Buffers, counts_of, laid_out}
use Rattle.book.specs.View.{view}
use Rattle.book_rooms.specs.Rooms.{edit_room, line_room}
use Rattle.book_opening.specs.declared.How.{How}
use Rattle.book_opening.specs.Opening.{Opening, opens, left, opening, told}
use Rattle.book_opened.specs.Opened.{opens_at}
use Rattle.ranking.specs.Matching.{Name}
use Rattle.lookups.specs.Lookups.{locality_asked, version_asked}
use Rattle.export_list.specs.Membership.{contains_asked}
use Rattle.trial.specs.Trial.{may_stand, standing}
use Rattle.trial.specs.Symbols.{symbol_place}
use Rattle.histories.specs.Histories.{Call, adds, adds_symbol, settles, strikes, Lent, Desk, answer, desk_at, history, leads, run, undos}
use Rattle.histories.specs.Histories.{desk_of_book, edits_left, nothing_dropped, on_line}

-- a book laid out in buffers with the rooms of b, with its counts
abbrev pub lent_book : Buffers → Book → Lent
lent_book b w = record { counts = counts_of w; buffers = laid_out b w }

-- what an opening leaves: the counts that it answers, and the buffers
abbrev pub lent_opening : Buffers → Opening → Lent
lent_opening b o = record { counts = (told o).counts; buffers = left b o }

-- ---- the lines that a text of `add_symbol` adds to an export list, and room for them
-- a line before others, where its token is kept
abbrev pub line_kept : ℕ → Keep → Option (List Line) → Option (List Line)
line_kept language (kept k bs) (Some ls) = Some (new_line 0 global language (class_number k) bs ∷ ls)
line_kept language (kept k bs) None = None
line_kept language (refused n) o = None

abbrev pub event_kept : Edition → List ℕ → Event → Option (List Line) → Option (List Line)
event_kept e s x o = on_line (λ language p n. line_kept language (keep e (part s p n)) o) o x

-- the lines of a text's events, where all its tokens are kept
unfoldable pub lines_kept : Edition → List ℕ → List Event → Option (List Line)
lines_kept e s [] = Some []
lines_kept e s (x ∷ xs) = event_kept e s x (lines_kept e s xs)

-- room for lines behind the lines ls and the edits es, one behind the other: each has a row, its bytes and an edit
unfoldable pub all_room : Buffers → List Line → List Edit → List Line → Bool
all_room b ls es [] = true
all_room b ls es (x ∷ xs) =
    line_room b ls x.bytes && (edit_room b es && all_room b (ls ++ x ∷ []) (es ++ record { what = add; line = length ls } ∷ []) xs)

-- ---- the book w as it was opened or lent in buffers with the rooms of b, and what a history leaves: the lent counts and buffers y, and the desk d
pub record Holds (b : Buffers) (w : Book) (y : Lent) (d : Desk) : Type 0 where
  -- they hold that book's kind and nodes with the desk's lines, one edit for each undo that there can be, and the desk is the one that this book has
  pub edits : List Edit
  pub held : view y.counts y.buffers ≡ Some (record { kind = w.kind; nodes = w.nodes; lines = d.lines; edits = edits })
  pub undoable : length edits ≡ length d.earlier
  pub same_desk : desk_of_book (record { kind = w.kind; nodes = w.nodes; lines = d.lines; edits = edits }) ≡ d
  -- "each lookup answers by demand 2's ranking over exactly the lines that the history leaves standing"
  pub version : (n : Name) (v : Option (List ℕ))
      → version_asked (view y.counts y.buffers) n v ≡ version_asked (Some (with_lines w (standing d.lines))) n v
  pub locality : (n : Name) → locality_asked (view y.counts y.buffers) n ≡ locality_asked (Some (with_lines w (standing d.lines))) n
  pub member : (n : Name) → contains_asked (view y.counts y.buffers) n ≡ contains_asked (Some (with_lines w (standing d.lines))) n
  -- "and undoing every edit since the opening, or since the last settle that dropped a line, brings back each lent byte of that moment", and each count:
  -- `UndoneAll` and `BroughtBack` say it of the lent counts and buffers at both times
  pub undone : run y (undos (length d.earlier)) ≡ lent_book b (with_lines w d.moment)
  -- an add that may stand, of a token that is kept, is done wherever the lines and the journal leave room
  pub added : (node section language : ℕ) (t bs : List ℕ) (k : Class)
      → may_stand w node section language ≡ true → keep (edition_of (book_frame w)) (trim_end t) ≡ kept k bs
      → line_room b d.lines bs ≡ true → edit_room b edits ≡ true
      → answer y (adds node section language t) ≡ 0
  -- and a strike of a line that stands, wherever the journal leaves room
  pub struck : (i : ℕ) → i < length d.lines → stands (line_at d.lines i) ≡ true → edit_room b edits ≡ true → answer y (strikes i) ≡ 0
  -- and `add_symbol` on an export list, of a text that is read to its end and whose lines are all kept, wherever there is room for all of them
  pub symbols : (t : List ℕ) (bare : Bool) (ls : List Line)
      → eqb w.kind export ≡ true → over token_limit t ≡ false → (reading reld (symbol_place bare) t).outcome ≡ accepted
      → lines_kept (edition_of (book_frame w)) t (reading reld (symbol_place bare) t).events ≡ Some ls → all_room b d.lines edits ls ≡ true
      → answer y (adds_symbol t bare) ≡ 0

-- ---- the theorem: for every opening of a Regular script or an export list, and every sequence of calls
-- what they leave, and their desk
abbrev pub lent_behind : How → Buffers → List ℕ → List Call → Lent
lent_behind how b s ks = run (lent_opening b (opening how b s)) ks

abbrev pub desk_behind : How → Buffers → List ℕ → Book → List Call → Desk
desk_behind how b s w ks = leads (edition_of (book_frame w)) (desk_at w.lines) (history (lent_opening b (opening how b s)) ks)

abbrev pub Demand3 : Type 0
Demand3 =
    (how : How) (b : Buffers) (s : List ℕ) (w : Book) (ks : List Call)
    → opens_at how ≡ true → opening how b s ≡ opens w → eqb w.kind rust ≡ false
    → Holds b w (lent_behind how b s ks) (desk_behind how b s w ks)

-- ---- what follows of it
-- "A settle frees every struck line's room for later adds": behind one the lines are those that stood, and where it dropped a line there is no edit. So
-- `Demand3` says of `ks ++ settles ∷ []` that these lines are held, and that an add (of a token that is kept, in its place) is done wherever they and the
-- journal leave room; and of what goes on behind it, the same of later adds
abbrev pub Freed : Type 0
Freed =
    (how : How) (b : Buffers) (s : List ℕ) (w : Book) (ks : List Call)
    → opens_at how ≡ true → opening how b s ≡ opens w → eqb w.kind rust ≡ false
    → ((desk_behind how b s w (ks ++ settles ∷ [])).lines ≡ standing (desk_behind how b s w ks).lines)
    × (every stands (desk_behind how b s w ks).lines ≡ false → (desk_behind how b s w (ks ++ settles ∷ [])).earlier ≡ [])

-- the calls ks lead to a moment with nothing to undo, as an opening or a settle that drops a line is, and behind the calls ls it still is the desk's moment:
-- undoing then brings back the lent counts and buffers that ks left
abbrev pub BroughtBack : Type 0
BroughtBack =
    (how : How) (b : Buffers) (s : List ℕ) (w : Book) (ks ls : List Call)
    → opens_at how ≡ true → opening how b s ≡ opens w → eqb w.kind rust ≡ false
    → (desk_behind how b s w ks).earlier ≡ [] → (desk_behind how b s w (ks ++ ls)).moment ≡ (desk_behind how b s w ks).moment
    → run (lent_behind how b s (ks ++ ls)) (undos (length (desk_behind how b s w (ks ++ ls)).earlier)) ≡ lent_behind how b s ks

-- "undoing every edit since the opening, or since the last settle that dropped a line, brings back each lent byte of that moment": the calls ks lead to an
-- opening, where they are none, or to a moment with nothing to undo, and no settle of ls drops a line; undoing as many edits as ls did then brings back the
-- lent counts and buffers that ks left
abbrev pub UndoneAll : Type 0
UndoneAll =
    (how : How) (b : Buffers) (s : List ℕ) (w : Book) (ks ls : List Call)
    → opens_at how ≡ true → opening how b s ≡ opens w → eqb w.kind rust ≡ false
    → (desk_behind how b s w ks).earlier ≡ []
    → nothing_dropped (edition_of (book_frame w)) (desk_behind how b s w ks) (history (lent_behind how b s ks) ls) ≡ true
    → run (lent_behind how b s (ks ++ ls)) (undos (edits_left 0 (history (lent_behind how b s ks) ls))) ≡ lent_behind how b s ks
