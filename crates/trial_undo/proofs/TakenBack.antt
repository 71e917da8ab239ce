-- The latest edit taken back: that a journal that fits lets it be taken back, the layout behind it, what `take_back_latest` asks of a book, and the exits of
-- `undo_latest`. The Bool that is named x is whether the buffers hold a book, and the code asked whether they do not. Assumes nothing.
use Prim.Native.Nat.{ℕ, suc, ◌+◌, ◌-◌, ◌*◌, ◌≤◌, ◌<◌}
use mathlib.Core.Path.{◌≡◌, refl, sym, ap, ◌∙◌}
use mathlib.Core.List.{List, [], ◌∷◌, ◌++◌}
use mathlib.Core.Bool.{Bool, true, false, cond, false≢true, not, ◌&&◌}
use Rattle.std.specs.Prelude.{Some, None, Result, Ok, Err}
use native.Mathlib.Omega.{arith}
use borrow.Author.Tests.{eq-eqb, eqb-false, eqb-true, ltb-true, ne_eqb, not-true}
use lib.Dec.{eqb, ltb}
use lib.ListN.{length, get_or, set, take, length-replicate, length-set}
use lib.Seq.{paste, length-paste, length-take-le, take-length, take-suc}
use Rattle.numbers.specs.Refusals.{no_book, nothing_to_undo}
use Rattle.lists.proofs.Tests.{both}
use Rattle.packing.specs.Padding.{zeros}
use Rattle.packing.specs.Tables.{packed}
use Rattle.packing.proofs.Packings.{Packs, packed_next, row_cell, set_thing, unput_thing}
use Rattle.book.specs.declared.Counts.{Counts}
use Rattle.book.specs.Books.{Book, Edit, Line, add, no_line}
use Rattle.book.specs.Edits.{add_back, all_back, all_stand, journal_fits, line_at, marked, stands, strike_back, take_back, then_back}
use Rattle.book.specs.Layout.{Buffers, code_of, counts_with, edit_form, edit_width, five, frame_of, line_form, line_width, row_of_line, struck_mark}
use Rattle.book.specs.Sanity.{edit_ok}
use Rattle.book.specs.View.{book_of, holds, view}
use Rattle.book.proofs.Asking.{asked_none}
use Rattle.book.proofs.Forms.{edit_laws, line_laws}
use Rattle.book.proofs.Views.{Layout, no_bytes}
use Rattle.trial.specs.Changes.{Answers, to}
use Rattle.trial.specs.Trial.{latest, undo_asked, without_latest}
use Rattle.trial.specs.Clearing.{emptied}
use Rattle.trial_undo.specs.Latest.{
  Undoable,
  code_told,
  counts_back,
  journal_back,
  line_told,
  lines_back,
  pool_back,
  row_back,
  start_of,
  unstruck,
  what_told,
}
use Rattle.trial.proofs.Answers.{Shown, layout_answers, refusal_answers, shown}
use Rattle.trial.proofs.Marking.{marked_ok}
use Rattle.trial.proofs.Marks.{line_code, line_ranged, line-right, line_room, line-within}

-- ---- lists of edits
-- where the latest edit can't be taken back, no journal that ends with it can
latest-stays : (es : List Edit) (e : Edit) (ls : List Line) → take_back e ls ≡ None → all_back (es ++ e ∷ []) ls ≡ None
unfolding all_back
latest-stays [] e ls h = h
latest-stays (x ∷ es) e ls h = ap (then_back x) (latest-stays es e ls h)

-- so the latest edit of a journal that fits can be
pub latest-fits : (es : List Edit) (e : Edit) (ls : List Line) → journal_fits (es ++ e ∷ []) ls ≡ true → take_back e ls ≡ None → ⊥
unfolding journal_fits
latest-fits es e ls f h = false≢true (ap all_stand (sym (latest-stays es e ls h)) ∙ f)

passed : {A : Type 0} (t : Bool) (x : A) → (cond t (Some x) None ≡ None → ⊥) → t ≡ true
passed true x h = refl
passed false x h = absurd (h refl)

-- an edit that can be taken back: an add is of the last line
pub added_last : (e : Edit) (ls : List Line) → (take_back e ls ≡ None → ⊥) → e.what ≡ add
    → (length ls ≡ e.line + 1) × (take_back e ls ≡ Some (take e.line ls))
unfolding take_back add_back
added_last e ls f w =
    let t : Bool = eqb (length ls) (e.line + 1) && stands (line_at ls e.line) in
    let q : take_back e ls ≡ cond t (Some (take e.line ls)) None = rw (eq-eqb e.what add w) in
    let g : t ≡ true = passed t (take e.line ls) (λ z. f (q ∙ z)) in
    (eqb-true _ _ (both (eqb (length ls) (e.line + 1)) _ g).0, q ∙ rw g)

-- a strike is of a line that is struck
pub struck_back : (e : Edit) (ls : List Line) → (take_back e ls ≡ None → ⊥) → (e.what ≡ add → ⊥)
    → (e.line < length ls) × ((line_at ls e.line).struck ≡ 0 → ⊥) × (take_back e ls ≡ Some (set ls e.line (marked 0 (line_at ls e.line))))
unfolding take_back strike_back
struck_back e ls f w =
    let t : Bool = ltb e.line (length ls) && not (stands (line_at ls e.line)) in
    let q : take_back e ls ≡ cond t (Some (set ls e.line (marked 0 (line_at ls e.line)))) None = rw (ne_eqb e.what add w) in
    let g : t ≡ true = passed t _ (λ z. f (q ∙ z)) in
    let a = both (ltb e.line (length ls)) _ g in
    (ltb-true _ _ a.0, eqb-false _ _ (not-true _ a.1), q ∙ rw g)

-- a list is what stands before its last, and that
pub last_apart : {A : Type 0} (xs : List A) (k : ℕ) (d : A) → length xs ≡ k + 1 → xs ≡ take k xs ++ (get_or xs k d ∷ [])
last_apart xs k d e =
    let z : length xs ≡ suc k = omega arith in
    sym (take-length xs) ∙ ap (λ (m : ℕ). take m xs) z ∙ take-suc xs k d (omega arith)

-- ---- what stands in the buffers of a book with an edit
module _ {c : Counts} {b : Buffers} {w : Book} (t : Layout c b w) (f : journal_fits w.edits w.lines ≡ true) (z : c.edits ≡ 0 → ⊥) where
  abbrev behind : ℕ
  behind = length w.edits - 1

  abbrev without : List Line → Book
  without ls = record { kind = w.kind; nodes = w.nodes; lines = ls; edits = take behind w.edits }

  behind_is : behind ≡ c.edits - 1
  behind_is = omega (arith, t.edits.count)

  some_edits : length w.edits ≡ behind + 1
  some_edits = let n : c.edits ≡ length w.edits = t.edits.count in omega (arith, z)

  last_edit : w.edits ≡ take behind w.edits ++ (latest w.edits ∷ [])
  last_edit = last_apart w.edits behind _ some_edits

  row-there : edit_width * (c.edits - 1) + edit_width ≤ length b.journal
  unfolding edit_form
  row-there = omega (arith, t.edits.rowroom, z)

  edit_cell : (k : ℕ) → k < edit_width
      → get_or b.journal (edit_width * (c.edits - 1) + k) 0 ≡ get_or ((latest w.edits).what ∷ (latest w.edits).line ∷ []) k 0
  unfolding edit_form
  edit_cell k h =
      ap (λ (m : ℕ). get_or b.journal (edit_width * m + k) 0) (sym behind_is)
      ∙ row_cell edit_laws t.edits behind _ (omega (arith, some_edits)) k h

  edit_what : what_told c b.journal ≡ (latest w.edits).what
  edit_what =
      let a : edit_width * (c.edits - 1) ≡ edit_width * (c.edits - 1) + 0 = omega arith in
      ap (λ (m : ℕ). get_or b.journal m 0) a ∙ edit_cell 0 (omega arith)

  taken : take_back (latest w.edits) w.lines ≡ None → ⊥
  taken = latest-fits (take behind w.edits) (latest w.edits) w.lines (ap (λ (es : List Edit). journal_fits es w.lines) (sym last_edit) ∙ f)

  undone : (ls : List Line) → take_back (latest w.edits) w.lines ≡ Some ls → undo_asked (Some w) ≡ to (without ls)
  unfolding undo_asked without_latest
  undone ls e = let n : length w.edits ≡ 0 → ⊥ = λ q. omega (arith, q, some_edits) in rw (ne_eqb _ _ n, e)

  edits_behind : {j' : List ℕ} → j' ≡ journal_back c b.journal → Packs edit_form edit_ok (c.edits - 1) 0 j' [] (take behind w.edits)
  unfolding edit_form journal_back
  edits_behind e =
      unput_thing edit_laws t.edits (latest w.edits) last_edit
      (sym behind_is ∙ sym (length-take-le behind w.edits (omega (arith, some_edits)))) (ap length (sym (no_bytes (take behind w.edits)))) e refl

  -- the line that the edit tells
  abbrev i : ℕ
  i = line_told c b.journal

  told : i ≡ (latest w.edits).line
  told = edit_cell 1 (omega arith)

  -- ---- an add
  module _ (h : what_told c b.journal ≡ add) where
    last_line : (length w.lines ≡ i + 1) × (take_back (latest w.edits) w.lines ≡ Some (take i w.lines))
    last_line = rw told (added_last (latest w.edits) w.lines taken (sym edit_what ∙ h))

    added_at : i < c.lines
    added_at = omega (arith, t.lines.count, last_line.0)

    start_told : start_of b.lines i ≡ length (packed line_form (take i w.lines))
    unfolding line_form
    start_told = row_cell (line_laws (frame_of c)) t.lines i no_line (line-within t i added_at) 2 (omega arith)

    ends-told : c.pool ≡ start_of b.lines i + length (line_at w.lines i).bytes
    unfolding line_form
    ends-told =
        let k = packed_next line_form w.lines i no_line (line-within t i added_at) in
        let a : take (i + 1) w.lines ≡ w.lines = rw (← last_line.0) (take-length w.lines) in
        let n = ap (λ (xs : List Line). length (packed line_form xs)) a in
        omega (arith, t.lines.total, k, n, start_told)

    add-room : (line_width * i + line_width ≤ length b.lines) × (start_of b.lines i ≤ c.pool) × (c.pool ≤ length b.pool) × (1 ≤ c.lines)
    add-room = (line_room t i added_at, omega (arith, ends-told), t.lines.byteroom, omega (arith, added_at))

    added-layout : {l' p' j' : List ℕ} → l' ≡ row_back b.lines i → p' ≡ emptied b.pool (start_of b.lines i) c.pool
        → j' ≡ journal_back c b.journal
        → Layout (counts_with c (c.lines - 1) (start_of b.lines i) (c.edits - 1)) (five b.nodes b.names l' p' j') (without (take i w.lines))
    unfolding line_form
    added-layout el ep ej =
        let s = start_of b.lines i in
        let k : c.pool - s ≡ length (line_at w.lines i).bytes = omega (arith, ends-told) in
        let q : i ≡ c.lines - 1 = omega (arith, t.lines.count, last_line.0) in
        record {
          kind = t.kind;
          limits = record {
            nodes = t.limits.nodes;
            lines = omega (arith, t.limits.lines);
            pool = omega (arith, t.limits.pool, ends-told);
            edits = omega (arith, t.limits.edits);
          };
          nodes = t.nodes;
          lines = unput_thing (line_laws (frame_of c)) t.lines (line_at w.lines i) (last_apart w.lines i no_line last_line.0)
              (sym q ∙ sym (length-take-le i w.lines (omega (arith, last_line.0)))) start_told
              (el ∙ ap (row_back b.lines) q) (ep ∙ ap (λ (m : ℕ). paste b.pool s (zeros m) m) k);
          edits = edits_behind ej;
        }

  -- ---- a strike
  module _ (h : what_told c b.journal ≡ add → ⊥) where
    struck-line : (i < length w.lines) × ((line_at w.lines i).struck ≡ 0 → ⊥)
        × (take_back (latest w.edits) w.lines ≡ Some (set w.lines i (marked 0 (line_at w.lines i))))
    struck-line = rw told (struck_back (latest w.edits) w.lines taken (λ q. h (edit_what ∙ q)))

    struck_at : i < c.lines
    struck_at = omega (arith, t.lines.count, struck-line.0)

    struck-code : code_told b.lines i ≡ code_of (marked 0 (line_at w.lines i)) + struck_mark
    struck-code =
        let r = line_ranged t i struck_at in
        let s : (line_at w.lines i).struck ≡ 1 = omega (arith, r.struck, struck-line.1) in
        omega (arith, line_code t i struck_at, s)

    strike-room : (line_width * i + line_width ≤ length b.lines) × (struck_mark ≤ code_told b.lines i)
    strike-room = (line_room t i struck_at, omega (arith, struck-code))

    stood_layout : {l' j' : List ℕ} → l' ≡ unstruck b.lines i → j' ≡ journal_back c b.journal
        → Layout (counts_with c c.lines c.pool (c.edits - 1)) (five b.nodes b.names l' b.pool j')
        (without (set w.lines i (marked 0 (line_at w.lines i))))
    unfolding line_form
    stood_layout el ej =
        let x = line_at w.lines i in
        let s : code_told b.lines i - struck_mark ≡ code_of (marked 0 x) = omega (arith, struck-code) in
        record {
          kind = t.kind;
          limits = record { nodes = t.limits.nodes; lines = t.limits.lines; pool = t.limits.pool; edits = omega (arith, t.limits.edits) };
          nodes = t.nodes;
          lines = set_thing (line_laws (frame_of c)) t.lines i no_line
              struck-line.0 1 _ (marked 0 x) (omega arith) (marked_ok (frame_of c) 0 x (omega arith) (line-right t i struck_at)) refl
              (λ o. ap (λ (k : ℕ). row_of_line x.node k o (length x.bytes) x.offset) s) el;
          edits = edits_behind ej;
        }

-- ---- undo_latest: r is answered, and b' left
abbrev pub Undoes : Counts → Buffers → Result Counts ℕ → Buffers → Type 0
Undoes c b = Answers c b (λ b w. undo_asked w)

module _ (c : Counts) (b : Buffers) (x : Bool) (e : x ≡ holds c b) where
  pub undo-no_book : not x ≡ true → Undoes c b (Err no_book) b
  unfolding undo_asked
  undo-no_book h = refusal_answers b _ no_book (rw (asked_none c b x e h))

  pub undo-nothing : not x ≡ false → c.edits ≡ 0 → Undoes c b (Err nothing_to_undo) b
  unfolding undo_asked
  undo-nothing h z =
      let here = shown c b x e h in
      let q : length (book_of c b).edits ≡ 0 = sym here.layout.edits.count ∙ z in
      refusal_answers b _ nothing_to_undo (rw (here.viewed, eq-eqb _ _ q))

module _ {c : Counts} {b : Buffers} (here : Shown c b) (z : c.edits ≡ 0 → ⊥) where
  -- what takes it back
  pub undo_able : Undoable c b.lines b.pool b.journal
  undo_able = record {
    some_edit = omega (arith, z);
    row = row-there here.layout here.fitting z;
    of_add = add-room here.layout here.fitting z;
    of_strike = strike-room here.layout here.fitting z;
  }

  -- and what that comes to
  asks : (ls : List Line) → take_back (latest (book_of c b).edits) (book_of c b).lines ≡ Some ls
      → undo_asked (view c b) ≡ to (without here.layout here.fitting z ls)
  asks ls e = ap undo_asked here.viewed ∙ undone here.layout here.fitting z ls e

  same_journal : (j' : List ℕ) → j' ≡ journal_back c b.journal → length j' ≡ length b.journal
  unfolding journal_back
  same_journal j' e = ap length e ∙ length-paste b.journal (edit_width * (c.edits - 1)) (zeros edit_width) edit_width undo_able.row (omega arith)

  module _ (l' j' : List ℕ) (ej : j' ≡ journal_back c b.journal) where
    undo-added : what_told c b.journal ≡ add → (p' : List ℕ) → l' ≡ row_back b.lines (line_told c b.journal)
        → p' ≡ emptied b.pool (start_of b.lines (line_told c b.journal)) c.pool
        → Undoes c b (Ok (counts_with c (c.lines - 1) (start_of b.lines (line_told c b.journal)) (c.edits - 1)))
        (five b.nodes b.names l' p' j')
    undo-added g p' el ep =
        let r = undo_able.of_add g in
        let s = start_of b.lines (line_told c b.journal) in
        let q : s + (c.pool - s) ≤ length b.pool = omega (arith, r) in
        let o : length (zeros (c.pool - s)) ≡ c.pool - s = length-replicate (c.pool - s) 0 in
        layout_answers _ b (five b.nodes b.names l' p' j') _ _
        (asks _ (last_line here.layout here.fitting z g).1)
        (added-layout here.layout here.fitting z g el ep ej)
        (record {
          nodes = refl;
          names = refl;
          lines = ap length el ∙ length-paste b.lines (line_width * line_told c b.journal) (zeros line_width) line_width r.0 (omega arith);
          pool = ap length ep ∙ length-paste b.pool s (zeros (c.pool - s)) (c.pool - s) q (omega (arith, o));
          journal = same_journal j' ej;
        })

    undo-struck : (what_told c b.journal ≡ add → ⊥) → l' ≡ unstruck b.lines (line_told c b.journal)
        → Undoes c b (Ok (counts_with c c.lines c.pool (c.edits - 1))) (five b.nodes b.names l' b.pool j')
    undo-struck g el =
        layout_answers _ b (five b.nodes b.names l' b.pool j') _ _
        (asks _ (struck-line here.layout here.fitting z g).2)
        (stood_layout here.layout here.fitting z g el ej)
        (record {
          nodes = refl;
          names = refl;
          lines = ap length el ∙ length-set b.lines (line_width * line_told c b.journal + 1) _;
          pool = refl;
          journal = same_journal j' ej;
        })

  pub undo-done : (r : Counts) (l' p' j' : List ℕ)
      → (r ≡ counts_back c b.lines b.journal) × (l' ≡ lines_back c b.lines b.journal) × (p' ≡ pool_back c b.lines b.pool b.journal)
      × (j' ≡ journal_back c b.journal)
      → Undoes c b (Ok r) (five b.nodes b.names l' p' j')
  unfolding counts_back lines_back pool_back
  undo-done r l' p' j' a = by (eqb (what_told c b.journal) add) refl
    where
      by : (t : Bool) → eqb (what_told c b.journal) add ≡ t → Undoes c b (Ok r) (five b.nodes b.names l' p' j')
      by true k =
          let q = undo-added l' j' a.3 (eqb-true _ _ k) p' (a.1 ∙ rw k refl) (a.2 ∙ rw k refl) in
          (ap Ok (a.0 ∙ rw k refl) ∙ q.0, q.1)
      by false k =
          let q = undo-struck l' j' a.3 (eqb-false _ _ k) (a.1 ∙ rw k refl) in
          (ap Ok (a.0 ∙ rw k refl) ∙ q.0, ap (λ (p : List ℕ). five b.nodes b.names l' p j') (a.2 ∙ rw k refl) ∙ q.1)
