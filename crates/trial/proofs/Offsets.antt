-- What the edits make of the lines' offsets (specs/Offsets.antt). Assumes nothing.
use Prim.Native.Nat.{ℕ, zero, suc, ◌+◌, ◌-◌}
use mathlib.Core.Path.{◌≡◌, refl, sym, ap, ap₂, ◌∙◌}
use mathlib.Core.List.{List, [], ◌∷◌, ◌++◌, append_assoc, append-nil, map-append}
use mathlib.Core.Bool.{Bool, true, false, cond, ◌&&◌, not, true≢false}
use Rattle.std.specs.Prelude.{Option, Some, None}
use native.Mathlib.Omega.{arith}
use borrow.Author.Tests.{eqb-true}
use lib.Dec.{eqb, ltb}
use lib.ListN.{length, set, take, length-append, length-replicate}
use Rattle.linker_script.specs.Parts.{part}
use Rattle.linker_script.specs.Trim.{trim_end}
use Rattle.lists.proofs.Tests.{both}
use Rattle.lists.specs.Each.{every}
use Rattle.numbers.specs.Editions.{reld}
use Rattle.numbers.specs.Limits.{over, token_limit}
use Rattle.numbers.specs.Marks.{global}
use Rattle.packing.specs.Padding.{zeros}
use Rattle.storing.specs.Keeping.{Keep, kept, refused, keep}
use Rattle.reading_cursors.specs.declared.Event.{Event}
use Rattle.reading_cursors.specs.declared.Event.TheVariants.{Node, Body, Section, Extern, Closed, Line, Parent}
use Rattle.reading.specs.Events.{Outcome, accepted, refused as ends-refused, reading}
use Rattle.book.specs.Books.{Book, Edit, add, book_frame, edition_of, export, no_edits, rust}
use Rattle.book.specs.Books as book
use Rattle.book.specs.Edits.{add_back, line_at, marked, strike_back, stands, take_back}
use Rattle.book.specs.Layout.{Buffers}
use Rattle.book_rooms.specs.Rooms.{edit_room, line_room}
use Rattle.trial.specs.Changes.{Change, no, to}
use Rattle.trial.specs.Trial.{add_asked, append, append_kept, kept_if, latest, may_stand, settle_asked, settled, standing, strike_asked, strike_line}
use Rattle.trial.specs.Trial.{undo_asked, without_latest}
use Rattle.trial.specs.Symbols.{add_event, add_events, add_reading, added_all, on_change, symbol_asked, symbol_place}
use Rattle.trial.specs.Offsets.{AddOffsets, OffsetsKept, SettleOffsets, StrikeOffsets, SymbolOffsets, UndoOffsets, left_by_undo, offsets}
use Rattle.trial.specs.Offsets.{standing_offsets}

-- ---- of lists of lines
length-offsets : (ls : List book.Line) → length (offsets ls) ≡ length ls
length-offsets [] = refl
length-offsets (x ∷ ls) = ap suc (length-offsets ls)

take-offsets : (i : ℕ) (ls : List book.Line) → offsets (take i ls) ≡ take i (offsets ls)
take-offsets zero ls = refl
take-offsets (suc i) [] = refl
take-offsets (suc i) (x ∷ ls) = ap (λ (m : List ℕ). x.offset ∷ m) (take-offsets i ls)

marked-offsets : (k : ℕ) (ls : List book.Line) (i : ℕ) → offsets (set ls i (marked k (line_at ls i))) ≡ offsets ls
marked-offsets k [] i = refl
marked-offsets k (x ∷ ls) zero = refl
marked-offsets k (x ∷ ls) (suc i) = ap (λ (m : List ℕ). x.offset ∷ m) (marked-offsets k ls i)

stood_offsets : (ls : List book.Line) → offsets (standing ls) ≡ standing_offsets ls
unfolding standing standing_offsets
stood_offsets [] = refl
stood_offsets (x ∷ ls) = go (stands x) (stood_offsets ls)
  where
    go : (t : Bool) → offsets (standing ls) ≡ standing_offsets ls
        → offsets (kept_if t x (standing ls)) ≡ cond t (x.offset ∷ standing_offsets ls) (standing_offsets ls)
    go true e = ap (λ (m : List ℕ). x.offset ∷ m) e
    go false e = e

all_stand : (ls : List book.Line) → every stands ls ≡ true → offsets ls ≡ standing_offsets ls
unfolding every standing_offsets
all_stand [] e = refl
all_stand (x ∷ ls) e =
    let a = both (stands x) (every stands ls) e in
    rw a.0 (ap (λ (m : List ℕ). x.offset ∷ m) (all_stand ls a.1))

-- ---- P holds of the book that a change comes to, wherever it comes to one
data Comes (P : Book → Type 0) : Change → Type 0 where
  done : {v : Book} → P v → Comes P (to v)
  refuses : {n : ℕ} → Comes P (no n)

comes_to : {P : Book → Type 0} {x : Change} {v : Book} → Comes P x → x ≡ to v → P v
comes_to {P} {x} {v} (done {v = u} p) e = let z : u ≡ v = cc in rw z at p
comes_to refuses e = absurd (true≢false (cc))

comes_cond : {P : Book → Type 0} (t : Bool) {x y : Change} → (t ≡ true → Comes P x) → (t ≡ false → Comes P y) → Comes P (cond t x y)
comes_cond true f g = f refl
comes_cond false f g = g refl

-- ---- add
abbrev OneMore : Book → Book → Type 0
OneMore w v = offsets v.lines ≡ offsets w.lines ++ 0 ∷ []

module _ (b : Buffers) (w : Book) where
  kept-adds : (node section language : ℕ) (K : Keep) → Comes (OneMore w) (append_kept b w node section language K)
  unfolding append_kept
  kept-adds node section language (kept k bs) =
      comes_cond (line_room b w.lines bs && edit_room b w.edits) (λ _. done (map-append (λ (x : book.Line). x.offset) w.lines _)) (λ _. refuses)
  kept-adds node section language (refused n) = refuses

  append-adds : (node section language : ℕ) (t : List ℕ) → Comes (OneMore w) (append b w node section language t)
  unfolding append
  append-adds node section language t = kept-adds node section language (keep (edition_of (book_frame w)) t)

add-offsets : AddOffsets
unfolding add_asked
add-offsets b w v node section language t =
    comes_to
    (comes_cond (eqb w.kind rust) (λ _. refuses)
    (λ _. comes_cond (may_stand w node section language) (λ _. append-adds b w node section language (trim_end t)) (λ _. refuses)))

-- ---- add_symbol: so many lines more
record SomeMore (w v : Book) : Type 0 where
  count : ℕ
  offset : offsets v.lines ≡ offsets w.lines ++ zeros count

some_none : (w : Book) → SomeMore w w
some_none w = record { count = 0; offset = sym (append-nil (offsets w.lines)) }

-- a line, and those behind it
one_and_more : (w u v : Book) → OneMore w u → SomeMore u v → SomeMore w v
one_and_more w u v e m = record {
  count = suc m.count;
  offset = m.offset ∙ ap (λ (l : List ℕ). l ++ zeros m.count) e ∙ append_assoc (offsets w.lines) (0 ∷ []) (zeros m.count);
}

module _ (b : Buffers) (s : List ℕ) where
  all_added : (w : Book) (o : Outcome) → Comes (SomeMore w) (added_all w o)
  all_added w accepted = done (some_none w)
  all_added w (ends-refused n p) = refuses

  then-adds : (w : Book) (x : Change) (next : Book → Change) → Comes (OneMore w) x → ((u : Book) → Comes (SomeMore u) (next u))
      → Comes (SomeMore w) (on_change x next)
  then-adds w x next (done {v = u} e) f = go (next u) (f u)
    where
      go : (y : Change) → Comes (SomeMore u) y → Comes (SomeMore w) y
      go y (done {v = v} m) = done (one_and_more w u v e m)
      go y refuses = refuses
  then-adds w x next refuses f = refuses

  events-add : (w : Book) (es : List Event) (o : Outcome) → Comes (SomeMore w) (add_events b s w es o)
  unfolding add_events add_event
  events-add w [] o = all_added w o
  events-add w (Node p n ∷ es) o = events-add w es o
  events-add w (Body ∷ es) o = events-add w es o
  events-add w (Section k ∷ es) o = events-add w es o
  events-add w (Extern k l ∷ es) o = events-add w es o
  events-add w (Closed ∷ es) o = events-add w es o
  events-add w (Line k l p n ∷ es) o =
      then-adds w (append b w 0 global l (part s p n)) (λ u. add_events b s u es o) (append-adds b w 0 global l (part s p n)) (λ u. events-add u es o)
  events-add w (Parent p n ∷ es) o = events-add w es o

symbol-adds : (b : Buffers) (w : Book) (s : List ℕ) (bare : Bool) → Comes (SomeMore w) (symbol_asked b (Some w) s bare)
unfolding symbol_asked add_reading
symbol-adds b w s bare =
    let r = reading reld (symbol_place bare) s in
    comes_cond (eqb w.kind export)
    (λ _. comes_cond (over token_limit s) (λ _. refuses) (λ _. events-add b s w r.events r.outcome))
    (λ _. refuses)

symbol-offsets : SymbolOffsets
symbol-offsets b w v s bare e =
    let m = comes_to (symbol-adds b w s bare) e in
    let n : length v.lines ≡ length w.lines + m.count
    = sym (length-offsets v.lines) ∙ ap length m.offset ∙ length-append (offsets w.lines) (zeros m.count)
    ∙ ap₂ ◌+◌ (length-offsets w.lines) (length-replicate m.count 0) in
    let k : m.count ≡ length v.lines - length w.lines = omega (arith, n) in
    m.offset ∙ ap (λ (i : ℕ). offsets w.lines ++ zeros i) k

-- ---- strike
strike-offsets : StrikeOffsets
unfolding strike_asked strike_line
strike-offsets b w v i =
    comes_to {P = λ u. offsets u.lines ≡ offsets w.lines}
    (comes_cond (eqb w.kind rust) (λ _. refuses)
    (λ _. comes_cond (ltb i (length w.lines) && stands (line_at w.lines i))
    (λ _. comes_cond (edit_room b w.edits) (λ _. done (marked-offsets 1 w.lines i)) (λ _. refuses))
    (λ _. refuses)))

-- ---- undo
data Back (ks : List ℕ) : Option (List book.Line) → Type 0 where
  back : {ms : List book.Line} → offsets ms ≡ ks → Back ks (Some ms)
  nowhere : Back ks None

back_cond : (ks : List ℕ) (ms : List book.Line) (t : Bool) → (t ≡ true → offsets ms ≡ ks) → Back ks (cond t (Some ms) None)
back_cond ks ms true f = back (f refl)
back_cond ks ms false f = nowhere

add-taken : (i : ℕ) (ls : List book.Line) → Back (take (length (offsets ls) - 1) (offsets ls)) (add_back i ls)
unfolding add_back
add-taken i ls = back_cond _ (take i ls) (eqb (length ls) (i + 1) && stands (line_at ls i)) (λ e.
    let h : length ls ≡ i + 1 = eqb-true _ _ (both (eqb (length ls) (i + 1)) _ e).0 in
    let n : i ≡ length (offsets ls) - 1 = omega (arith, h, length-offsets ls) in
    take-offsets i ls ∙ ap (λ (k : ℕ). take k (offsets ls)) n)

strike-taken : (i : ℕ) (ls : List book.Line) → Back (offsets ls) (strike_back i ls)
unfolding strike_back
strike-taken i ls =
    back_cond (offsets ls) (set ls i (marked 0 (line_at ls i))) (ltb i (length ls) && not (stands (line_at ls i))) (λ _. marked-offsets 0 ls i)

taken_back : (x : Edit) (ls : List book.Line) → Back (left_by_undo (eqb x.what add) (offsets ls)) (take_back x ls)
unfolding take_back
taken_back x ls = go (eqb x.what add)
  where
    go : (t : Bool) → Back (left_by_undo t (offsets ls)) (cond t (add_back x.line ls) (strike_back x.line ls))
    go true = add-taken x.line ls
    go false = strike-taken x.line ls

undo-offsets : UndoOffsets
unfolding undo_asked without_latest
undo-offsets w v =
    let e = latest w.edits in
    comes_to {P = λ u. offsets u.lines ≡ left_by_undo (eqb e.what add) (offsets w.lines)}
    (comes_cond (no_edits w.edits) (λ _. refuses) (λ _. go (take_back e w.lines) (taken_back e w.lines)))
  where
    go : {ks : List ℕ} (m : Option (List book.Line)) → Back ks m → Comes (λ u. offsets u.lines ≡ ks) (without_latest w m)
    go m (back e) = done e
    go m nowhere = refuses

-- ---- settle
settle-offsets : SettleOffsets
unfolding settle_asked settled
settle-offsets w v = comes_to {P = λ u. offsets u.lines ≡ standing_offsets w.lines} (go (every stands w.lines) refl)
  where
    go : (t : Bool) → every stands w.lines ≡ t
        → Comes (λ u. offsets u.lines ≡ standing_offsets w.lines) (to (cond t w (book.with_lines w (standing w.lines))))
    go true e = done (all_stand w.lines e)
    go false e = done (stood_offsets w.lines)

pub offsets-kept : OffsetsKept
offsets-kept = record {
  added = add-offsets;
  symbols = symbol-offsets;
  struck = strike-offsets;
  undone = undo-offsets;
  settled = settle-offsets;
}
