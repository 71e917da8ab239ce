-- What a call of a history makes of a book that the lent counts and buffers hold: where it is done they hold the followed desk's lines, and where it is refused,
-- with a number that is not 0, nothing changes. Assumes nothing.
use Prim.Native.Nat.{ℕ, ◌≤◌, ◌<◌}
use mathlib.Core.Path.{◌≡◌, refl, sym, ap, subst, ◌∙◌}
use mathlib.Core.List.{List, [], ◌∷◌, ◌++◌}
use mathlib.Core.Bool.{Bool, true, false, cond, not, ◌&&◌, ◌||◌, true≢false}
use Rattle.std.specs.Prelude.{Some}
use native.Mathlib.Omega.{arith}
use borrow.Author.Tests.{eqb-true, leb-true, ltb-true, ne_eqb}
use lib.Dec.{eqb, leb, ltb}
use lib.ListN.{length, set}
use Rattle.numbers.specs.Marks.{cxx, global, local}
use Rattle.numbers.specs.Refusals.{nothing_to_undo}
use Rattle.lists.proofs.Tests.{both}
use Rattle.linker_script.specs.Trim.{trim_end}
use Rattle.lists.specs.Each.{every}
use Rattle.classes.specs.Classes.{class_number}
use Rattle.storing.specs.Keeping.{Keep, kept, refused, keep}
use Rattle.book.specs.Books.{Book, Edit, Line, add, book_frame, edition_of, export, new_line, rust, strike}
use Rattle.book.specs.Edits.{line_at, marked, stands, take_back}
use Rattle.book.specs.Layout.{Buffers, counts_of}
use Rattle.book.specs.Sanity.{edit_ok}
use Rattle.book.specs.View.{view}
use Rattle.book.proofs.Views.{Rooms, laid_out-rooms, laid_out_same, view_of_layout}
use Rattle.book_rooms.specs.Rooms.{edit_room, line_room}
use Rattle.book_opened.proofs.Opened.{Viewable}
use Rattle.trial.specs.Changes.{Change, to, no, after, counts_after, edit_refusal, edited}
use Rattle.trial.specs.Trial.{add_asked, append, append_kept, may_stand, settle_asked, settled, standing, strike_asked, strike_line, undo_asked, with_line, with_strike, without_latest}
use Rattle.trial.proofs.AddedLines.{added_ok}
use Rattle.trial.proofs.SameRooms.{edit_room_same, line_room_same}
use Rattle.histories.specs.Histories.{Lent, Desk, back_to, edited_to, settled_to, with_kept}
use Rattle.histories.specs.Demand.{lent_book}
use Rattle.histories.proofs.Asked.{book_with}
use Rattle.histories.proofs.Trails.{Trail, begins, goes, added_back, before_last, latest_last, length_last, struck_back}
use Rattle.histories.proofs.Numbered.{keep-numbered}
use Rattle.histories.proofs.Viewables.{viewable-line, viewable-standing, viewable-strike}

-- ---- the book w with the lines of the desk d and the edits es can be viewed, and so can what each undo gives back
pub record Sound (b : Buffers) (w : Book) (d : Desk) (es : List Edit) : Type 0 where
  pub viewable : Viewable b (book_with w d.lines es)
  pub trail : Trail b w d.moment d.earlier es d.lines

-- the lent counts and buffers hold that book
pub record Held (b : Buffers) (w : Book) (d : Desk) (x : Lent) : Type 0 where
  pub edits : List Edit
  pub lent : x ≡ lent_book b (book_with w d.lines edits)
  pub sound : Sound b w d edits

-- a change leads to the desk d, or is refused
pub data Leads (b : Buffers) (w : Book) (d : Desk) : Change → Type 0 where
  done : (es : List Edit) → Sound b w d es → Leads b w d (to (book_with w d.lines es))
  declined : {n : ℕ} → (n ≡ 0 → ⊥) → Leads b w d (no n)

pub leads-cond : {b : Buffers} {w : Book} {d : Desk} (t : Bool) {x y : Change} → (t ≡ true → Leads b w d x) → Leads b w d y → Leads b w d (cond t x y)
leads-cond true f g = f refl
leads-cond false f g = g

module _ (b : Buffers) (w : Book) (d : Desk) (x : Lent) (h : Held b w d x) where
  pub seen : view x.counts x.buffers ≡ Some (book_with w d.lines h.edits)
  seen =
      let v = h.sound.viewable in
      ap (λ (y : Lent). view y.counts y.buffers) h.lent ∙ view_of_layout b (book_with w d.lines h.edits) v.fits v.sane

  pub rooms : Rooms x.buffers b
  rooms = subst (λ (y : Lent). Rooms y.buffers b) (sym h.lent) (laid_out-rooms b (book_with w d.lines h.edits) h.sound.viewable.fits)

  -- what is left behind a change
  pub held_on : (d' : Desk) (c : Change) → Leads b w d' c
      → Held b w (cond (eqb (edit_refusal (edited c)) 0) d' d) (record { counts = counts_after x.counts c; buffers = after x.buffers c })
  unfolding edited counts_after after
  held_on d' c (done es g) =
      let u : Book = book_with w d'.lines es in
      record {
        edits = es;
        lent = ap (λ (y : Buffers). record { counts = counts_of u; buffers = y }) (laid_out_same x.buffers b u rooms);
        sound = g;
      }
  held_on d' c (declined {n} z) = rw (ne_eqb n 0 z) h

-- ---- each call, in buffers a with the rooms of b, on the book with the lines of the desk d and the edits es
module _ (a b : Buffers) (r : Rooms a b) (w : Book) (k : eqb w.kind rust ≡ false) (d : Desk) (es : List Edit)
    (g : Sound b w d es) where
  abbrev held : Book
  held = book_with w d.lines es

  -- a line of a token
  pub append-leads : (node section language : ℕ) → node < length w.nodes → section ≤ 1 → language ≤ 1
      → (eqb w.kind export ≡ true → section ≡ global) → (s : List ℕ) (K : Keep) → keep (edition_of (book_frame w)) s ≡ K
      → Leads b w (with_kept d node section language K) (append_kept a held node section language K)
  unfolding append_kept
  append-leads node section language i j l f s (kept c bs) q = leads-cond (line_room a d.lines bs && edit_room a es) roomy (declined (λ h. omega arith))
    where
      roomy : line_room a d.lines bs && edit_room a es ≡ true → Leads b w (with_kept d node section language (kept c bs)) (to (with_line held (new_line node section language (class_number c) bs)))
      roomy m =
          let p = both (line_room a d.lines bs) (edit_room a es) m in
          let x : Line = new_line node section language (class_number c) bs in
          let e : Edit = record { what = add; line = length d.lines } in
          let z : take_back e (d.lines ++ x ∷ []) ≡ Some d.lines = added_back d.lines x refl in
          let o = added_ok (book_frame w) k s c bs q node section language i j l f in
          done (es ++ e ∷ []) (record {
            viewable = viewable-line b w d.lines es g.viewable k x o (sym (line_room_same a b r d.lines bs) ∙ p.0)
                (sym (edit_room_same a b r es) ∙ p.1) z;
            trail = goes es e d.lines refl z g.viewable g.trail;
          })
  append-leads node section language i j l f s (refused n) q = declined (rw q at (keep-numbered (edition_of (book_frame w)) s))

  -- what may stand
  pub add-leads : (node section language : ℕ) (s : List ℕ)
      → Leads b w (with_kept d node section language (keep (edition_of (book_frame w)) (trim_end s))) (add_asked a (Some held) node section language s)
  unfolding add_asked append may_stand
  add-leads node section language s = rw k (leads-cond (may_stand held node section language) stood (declined (λ h. omega arith)))
    where
      globals : (y : Bool) → y ≡ true → (not y || (eqb section global && eqb node 0)) ≡ true → section ≡ global
      globals true e h = eqb-true _ _ (both (eqb section global) _ h).0
      globals false e h = absurd (true≢false (sym e))

      stood : may_stand held node section language ≡ true
          → Leads b w (with_kept d node section language (keep (edition_of (book_frame w)) (trim_end s))) (append a held node section language (trim_end s))
      stood m =
          let f = both (ltb node (length w.nodes)) _ m in
          let c = both (leb section local) _ f.1 in
          let h = both (leb language cxx) _ c.1 in
          append-leads node section language (ltb-true _ _ f.0) (leb-true _ _ c.0) (leb-true _ _ h.0)
          (λ e. globals (eqb w.kind export) e h.1) (trim_end s) (keep (edition_of (book_frame w)) (trim_end s)) refl

  pub strike-leads : (i : ℕ) → Leads b w (edited_to d (set d.lines i (marked 1 (line_at d.lines i)))) (strike_asked a (Some held) i)
  unfolding strike_asked strike_line edit_ok
  strike-leads i =
      rw k (leads-cond (ltb i (length d.lines) && stands (line_at d.lines i)) (λ m. leads-cond (edit_room a es) (struck m) (declined (λ h. omega arith)))
      (declined (λ h. omega arith)))
    where
      struck : ltb i (length d.lines) && stands (line_at d.lines i) ≡ true → edit_room a es ≡ true
          → Leads b w (edited_to d (set d.lines i (marked 1 (line_at d.lines i)))) (to (with_strike held i))
      struck m p =
          let f = both (ltb i (length d.lines)) _ m in
          let l : i < length d.lines = ltb-true i (length d.lines) f.0 in
          let e : Edit = record { what = strike; line = i } in
          let z = struck_back d.lines i l f.1 in
          done (es ++ e ∷ []) (record {
            viewable = viewable-strike b w d.lines es g.viewable k i e l refl (sym (edit_room_same a b r es) ∙ p) z;
            trail = goes es e d.lines refl z g.viewable g.trail;
          })

  pub settle-leads : Leads b w (settled_to (every stands d.lines) d) (settle_asked (Some held))
  unfolding settle_asked settled
  settle-leads = go (every stands d.lines)
    where
      go : (y : Bool) → Leads b w (settled_to y d) (to (cond y held (book_with w (standing d.lines) [])))
      go true = done es g
      go false = done [] (record { viewable = viewable-standing b w d.lines es g.viewable k; trail = begins refl refl })

-- ---- undo, by the trail
pub undo_is : (w : Book) (fs : List Edit) (e : Edit) (before ls : List Line) → take_back e ls ≡ Some before
    → undo_asked (Some (book_with w ls (fs ++ e ∷ []))) ≡ to (book_with w before fs)
unfolding undo_asked without_latest
undo_is w fs e before ls z =
    let n : eqb (length (fs ++ e ∷ [])) 0 ≡ false = ne_eqb (length (fs ++ e ∷ [])) 0 (λ h. omega (arith, length_last fs e)) in
    rw (n, latest_last fs e, z, before_last fs e)

pub undo-leads : (b : Buffers) (w : Book) (moment : List Line) {earlier : List (List Line)} {es : List Edit} {ls : List Line}
    → Trail b w moment earlier es ls
    → Leads b w (back_to (record { moment = moment; earlier = earlier; lines = ls }) earlier) (undo_asked (Some (book_with w ls es)))
unfolding undo_asked
undo-leads b w moment (begins z e) = rw z (declined {n = nothing_to_undo} (λ h. omega arith))
undo-leads b w moment {ls = ls} (goes fs e before z h v t) = rw (z, undo_is w fs e before ls h) (done fs (record { viewable = v; trail = t }))
