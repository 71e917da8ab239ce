-- Histories of a trial book: calls with their answers, what they do to lent counts and buffers, and, told without any buffer, which lines they leave and where
-- undoing leads back to. Assumes nothing.
use Rattle.std.specs.Prelude.{ℕ, zero, suc, ◌+◌, ◌-◌, List, [], ◌∷◌, ◌++◌, Bool, true, false, cond, not, ◌&&◌, eqb, Option, Some, None}
use Rattle.linker_script.specs.Parts.{part}
use Rattle.numbers.specs.Editions.{reld}
use Rattle.numbers.specs.Marks.{global}
use Rattle.linker_script.specs.Trim.{trim_end}
use Rattle.lists.specs.Each.{every}
use Rattle.numbers.specs.declared.Edition.{Edition}
use Rattle.classes.specs.Classes.{class_number}
use Rattle.storing.specs.Keeping.{Keep, kept, refused, keep}
use Rattle.reading_cursors.specs.declared.Event.{Event}
use Rattle.reading_cursors.specs.declared.Event.TheVariants as event
use Rattle.reading.specs.Events.{reading}
use Rattle.book.specs.declared.Counts.{Counts}
use Rattle.book.specs.Books.{Book, Edit, Line, new_line}
use Rattle.book.specs.Edits.{all_back, marked_at, stands}
use Rattle.book.specs.Layout.{Buffers}
use Rattle.book.specs.View.{view}
use Rattle.trial.specs.Changes.{Change, after, counts_after, edit_refusal, edited}
use Rattle.trial.specs.Trial.{add_asked, settle_asked, standing, strike_asked, undo_asked}
use Rattle.trial.specs.Symbols.{symbol_asked, symbol_place}

-- ---- the calls
pub data Call : Type 0 where
  adds : ℕ → ℕ → ℕ → List ℕ → Call
  strikes : ℕ → Call
  undoes : Call
  settles : Call
  adds_symbol : List ℕ → Bool → Call

-- the counts and the buffers that a call is lent
pub record Lent : Type 0 where
  pub counts : Counts
  pub buffers : Buffers

-- what a call comes to: what the public functions promise
unfoldable pub change : Lent → Call → Change
change x (adds node section language t) = add_asked x.buffers (view x.counts x.buffers) node section language t
change x (strikes i) = strike_asked x.buffers (view x.counts x.buffers) i
change x undoes = undo_asked (view x.counts x.buffers)
change x settles = settle_asked (view x.counts x.buffers)
change x (adds_symbol t bare) = symbol_asked x.buffers (view x.counts x.buffers) t bare

-- the number that it answers, 0 where it is done
unfoldable pub answer : Lent → Call → ℕ
answer x k = edit_refusal (edited (change x k))

-- demand 3: "each call … gets the buffers and counts that the last one left"
unfoldable pub lent_after : Lent → Call → Lent
lent_after x k = record { counts = counts_after x.counts (change x k); buffers = after x.buffers (change x k) }

unfoldable pub run : Lent → List Call → Lent
run x [] = x
run x (k ∷ ks) = run (lent_after x k) ks

-- a history: the calls with their answers, demand 3's "refused calls included"
pub record Told : Type 0 where
  pub call : Call
  pub number : ℕ

unfoldable pub history : Lent → List Call → List Told
history x [] = []
history x (k ∷ ks) = record { call = k; number = answer x k } ∷ history (lent_after x k) ks

-- ---- without buffers: the lines now, those before each edit that can still be undone, the latest first, and the moment that undoing all leads back to
pub record Desk : Type 0 where
  pub moment : List Line
  pub earlier : List (List Line)
  pub lines : List Line

-- at an opening, and behind a settle that dropped a line
abbrev pub desk_at : List Line → Desk
desk_at ls = record { moment = ls; earlier = []; lines = ls }

-- the lines that edits taken back lead to. A book's journal leads to some: one that does not is refused with 14 (`journal_fits`)
abbrev pub led_back : Option (List Line) → List Line
led_back (Some ls) = ls
led_back None = []

-- the lines before each of these edits, the latest first
unfoldable pub earlier_lines : List Edit → List Line → List (List Line)
earlier_lines [] ls = []
earlier_lines (e ∷ es) ls = earlier_lines es ls ++ led_back (all_back (e ∷ es) ls) ∷ []

-- at any book, by its journal. It depends on the book alone, so in other rooms the same book has the same desk
unfoldable pub desk_of_book : Book → Desk
desk_of_book w = record { moment = led_back (all_back w.edits w.lines); earlier = earlier_lines w.edits w.lines; lines = w.lines }

abbrev pub edited_to : Desk → List Line → Desk
edited_to d ls = record { moment = d.moment; earlier = d.lines ∷ d.earlier; lines = ls }

abbrev pub back_to : Desk → List (List Line) → Desk
back_to d [] = d
back_to d (ls ∷ earlier) = record { moment = d.moment; earlier = earlier; lines = ls }

-- a line that is added, of what is kept of a token
abbrev pub with_kept : Desk → ℕ → ℕ → ℕ → Keep → Desk
with_kept d node section language (kept k bs) =
    edited_to d (d.lines ++ new_line node section language (class_number k) bs ∷ [])
with_kept d node section language (refused n) = d

-- what is made of an event's line, of its language and its place in the text, and a of any other event
abbrev pub on_line : {A : Type 0} → (ℕ → ℕ → ℕ → A) → A → Event → A
on_line make a (event.Node p n) = a
on_line make a event.Body = a
on_line make a (event.Section section) = a
on_line make a (event.Extern section language) = a
on_line make a event.Closed = a
on_line make a (event.Line section language p n) = make language p n
on_line make a (event.Parent p n) = a

-- the lines of a text of `add_symbol`, each an add of its own
abbrev pub with_event : Edition → List ℕ → Desk → Event → Desk
with_event e s d x = on_line (λ language p n. with_kept d 0 global language (keep e (part s p n))) d x

unfoldable pub with_events : Edition → List ℕ → Desk → List Event → Desk
with_events e s d [] = d
with_events e s d (x ∷ xs) = with_events e s (with_event e s d x) xs

abbrev pub settled_to : Bool → Desk → Desk
settled_to all_stand d = cond all_stand d (desk_at (standing d.lines))

-- a call that was done
unfoldable pub follow : Edition → Desk → Call → Desk
follow e d (adds node section language t) = with_kept d node section language (keep e (trim_end t))
follow e d (strikes i) = edited_to d (marked_at 1 d.lines i)
follow e d undoes = back_to d d.earlier
follow e d settles = settled_to (every stands d.lines) d
follow e d (adds_symbol t bare) = with_events e t d (reading reld (symbol_place bare) t).events

-- a refused call changes nothing
unfoldable pub leads : Edition → Desk → List Told → Desk
leads e d [] = d
leads e d (x ∷ xs) = leads e (cond (eqb x.number 0) (follow e d x.call) d) xs

-- ---- how many edits there are to undo
-- the lines of a text
unfoldable pub line_events : List Event → ℕ
line_events [] = 0
line_events (x ∷ xs) = on_line (λ language p n. 1) 0 x + line_events xs

-- n edits and then a call that was done: "`add_symbol` on an export list is one add per line", an undo takes one back, and a settle that drops no line none
abbrev pub edits_after : ℕ → Call → ℕ
edits_after n (adds node section language t) = n + 1
edits_after n (strikes i) = n + 1
edits_after n undoes = n - 1
edits_after n settles = n
edits_after n (adds_symbol t bare) = n + line_events (reading reld (symbol_place bare) t).events

-- n edits and then a history in which no settle drops a line
unfoldable pub edits_left : ℕ → List Told → ℕ
edits_left n [] = n
edits_left n (x ∷ xs) = edits_left (cond (eqb x.number 0) (edits_after n x.call) n) xs

-- whether a call drops a line of these where it is done
abbrev pub drops : List Line → Call → Bool
drops ls (adds node section language t) = false
drops ls (strikes i) = false
drops ls undoes = false
drops ls settles = not (every stands ls)
drops ls (adds_symbol t bare) = false

-- no settle of a history drops a line: each that is done meets a desk whose lines all stand
unfoldable pub nothing_dropped : Edition → Desk → List Told → Bool
nothing_dropped e d [] = true
nothing_dropped e d (x ∷ xs) = not (eqb x.number 0 && drops d.lines x.call) && nothing_dropped e (leads e d (x ∷ [])) xs

-- so many undos
unfoldable pub undos : ℕ → List Call
undos zero = []
undos (suc n) = undoes ∷ undos n
