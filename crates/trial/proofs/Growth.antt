-- A book to which the lines of a text are added one by one: its own lines and edits stay in front, and it fits. Where zeros are put over what is behind
-- them, the buffers are as they were. Assumes nothing.
use Prim.Native.Nat.{ℕ, ◌+◌, ◌-◌, ◌*◌, ◌≤◌, ◌<◌}
use mathlib.Core.Path.{◌≡◌, refl, sym, ap, ◌∙◌}
use mathlib.Core.List.{List, [], ◌∷◌, ◌++◌, append_assoc, append-nil}
use mathlib.Core.Bool.{Bool, true, false, cond, ◌&&◌}
use native.Mathlib.Omega.{arith}
use lib.Dec.{eqb}
use lib.ListN.{length, length-append}
use Rattle.linker_script.specs.Parts.{part}
use Rattle.numbers.specs.Marks.{global}
use Rattle.lists.proofs.Tests.{both}
use Rattle.packing.specs.Padding.{pad}
use Rattle.packing.specs.Tables.{Form, packed, rows}
use Rattle.packing.proofs.PaddingLaws.{pad_unput}
use Rattle.packing.proofs.TableLaws.{Laws, packed-append, rows_append}
use Rattle.packing.proofs.Packings.{Packs, rows_are}
use Rattle.classes.specs.Classes.{class_number}
use Rattle.storing.specs.Keeping.{Keep, kept, refused, keep}
use Rattle.reading_cursors.specs.declared.Event.{Event}
use Rattle.reading_cursors.specs.declared.Event.TheVariants.{Node, Body, Section, Extern, Closed, Line, Parent}
use Rattle.book.specs.declared.Counts.{Counts}
use Rattle.book.specs.Books.{Book, Edit, add, book_frame, edition_of, new_line, rust}
use Rattle.book.specs.Books as book
use Rattle.book.specs.Layout.{Buffers, edit_form, five, frame_of, line_form}
use Rattle.book.specs.View.{Fits}
use Rattle.book.proofs.Forms.{edit_laws, line_laws}
use Rattle.book.proofs.Views.{Layout, Rooms}
use Rattle.book_rooms.specs.Rooms.{edit_room, line_room}
use Rattle.book_building.specs.Events.{Lies}
use Rattle.trial.specs.Changes.{Change, no, to}
use Rattle.trial.specs.Clearing.{Clears, Reaches, emptied}
use Rattle.trial.specs.Trial.{append, append_kept, with_line}
use Rattle.trial.specs.Symbols.{add_event}
use Rattle.trial.proofs.AddedLines.{added_ok, fits_line}

-- v is w with lines and edits behind its own
pub record Grown (w v : Book) : Type 0 where
  pub more : List book.Line
  pub done : List Edit
  pub kind : v.kind ≡ w.kind
  pub nodes : v.nodes ≡ w.nodes
  pub lines : v.lines ≡ w.lines ++ more
  pub edits : v.edits ≡ w.edits ++ done

pub grown_none : (w : Book) → Grown w w
grown_none w = record { more = []; done = []; kind = refl; nodes = refl; lines = sym (append-nil w.lines); edits = sym (append-nil w.edits) }

grown-line : (w v : Book) → Grown w v → (x : book.Line) → Grown w (with_line v x)
grown-line w v g x =
    let e : Edit = record { what = add; line = length v.lines } in
    record {
      more = g.more ++ x ∷ [];
      done = g.done ++ e ∷ [];
      kind = g.kind;
      nodes = g.nodes;
      lines = ap (λ (ls : List book.Line). ls ++ x ∷ []) g.lines ∙ append_assoc w.lines g.more (x ∷ []);
      edits = ap (λ (es : List Edit). es ++ e ∷ []) g.edits ∙ append_assoc w.edits g.done (e ∷ []);
    }

-- ---- an event of a text
pub record Grows (b : Buffers) (w v : Book) : Type 0 where
  pub grown : Grown w v
  pub fits : Fits b v

module _ (b : Buffers) (w : Book) (k : eqb w.kind rust ≡ false) (h : 0 < length w.nodes) (s : List ℕ) where
  abbrev On : Change → Type 0
  On (to v) = Grows b w v
  On (no n) = Unit {0}

  on_cond : (t : Bool) (v : Book) (n : ℕ) → (t ≡ true → Grows b w v) → On (cond t (to v) (no n))
  on_cond true v n f = f refl
  on_cond false v n f = tt

  kept_on : (v : Book) → Grows b w v → (language : ℕ) → language ≤ 1 → (t : List ℕ) (K : Keep) → keep (edition_of (book_frame v)) t ≡ K
      → On (append_kept b v 0 global language K)
  unfolding append_kept
  kept_on v g language l t (refused n) q = tt
  kept_on v g language l t (kept c bs) q = on_cond (line_room b v.lines bs && edit_room b v.edits) _ _ roomy
    where
      roomy : line_room b v.lines bs && edit_room b v.edits ≡ true → Grows b w (with_line v (new_line 0 global language (class_number c) bs))
      roomy m =
          let p = both (line_room b v.lines bs) (edit_room b v.edits) m in
          let j : eqb v.kind rust ≡ false = rw g.grown.kind k in
          let i : 0 < length v.nodes = rw g.grown.nodes h in
          let x = new_line 0 global language (class_number c) bs in
          record {
            grown = grown-line w v g.grown x;
            fits = fits_line b v g.fits x
                (added_ok (book_frame v) j t c bs q 0 global language i (omega arith) l (λ _. refl)) p.0 p.1;
          }

  event_on : (v : Book) → Grows b w v → (x : Event) → Lies s x → On (add_event b s v x)
  unfolding add_event append
  event_on v g (Node p n) l = g
  event_on v g Body l = g
  event_on v g (Section section) l = g
  event_on v g (Extern section language) l = g
  event_on v g Closed l = g
  event_on v g (Line section language p n) l = kept_on v g language l.1 (part s p n) (keep (edition_of (book_frame v)) (part s p n)) refl
  event_on v g (Parent p n) l = g

  pub event_grows : (v : Book) → Grows b w v → (x : Event) → Lies s x → (u : Book) → add_event b s v x ≡ to u → Grows b w u
  event_grows v g x l u e = rw e at (event_on v g x l)

-- ---- zeros over what is behind
module _ {X : Type 0} {ok ok' : X → Bool} {F : Form X} {n k m j : ℕ} {l p l' p' : List ℕ} {xs ys : List X} (t : Packs F ok n k l p xs)
    (u : Packs F ok' m j l' p' ys) (zs : List X) (e : ys ≡ xs ++ zs) where
  packed-split : packed F ys ≡ packed F xs ++ packed F zs
  packed-split = ap (packed F) e ∙ packed-append F xs zs

  pub fewer_bytes : k ≤ j
  fewer_bytes = omega (arith, t.total, u.total, ap length packed-split, length-append (packed F xs) (packed F zs))

  pub bytes_back : length p' ≡ length p → {p'' : List ℕ} → p'' ≡ emptied p' k j → p'' ≡ p
  bytes_back h z =
      let d : j - k ≡ length (packed F zs) = omega (arith, t.total, u.total, ap length packed-split, length-append (packed F xs) (packed F zs)) in
      z
      ∙ pad_unput (length p') (packed F xs) (packed F zs) (u.pooled ∙ ap (pad (length p')) packed-split) t.total d
      (omega (arith, u.byteroom, fewer_bytes))
      ∙ ap (λ (i : ℕ). pad i (packed F xs)) h
      ∙ sym t.pooled

module _ {X : Type 0} {ok ok' : X → Bool} {F : Form X} (W : Laws F ok) {n k m j : ℕ} {l p l' p' : List ℕ} {xs ys : List X} (t : Packs F ok n k l p xs)
    (u : Packs F ok' m j l' p' ys) (zs : List X) (e : ys ≡ xs ++ zs) where
  rows_split : rows F 0 ys ≡ rows F 0 xs ++ rows F (0 + length (packed F xs)) zs
  rows_split = ap (rows F 0) e ∙ rows_append F 0 xs zs

  pub fewer-rows : F.width * n ≤ F.width * m
  fewer-rows =
      let a = rows_are W t in
      let b = rows_are W u in
      omega (arith, ap length rows_split, length-append (rows F 0 xs) (rows F (0 + length (packed F xs)) zs))

  pub rows_back : length l' ≡ length l → {l'' : List ℕ} → l'' ≡ emptied l' (F.width * n) (F.width * m) → l'' ≡ l
  rows_back h z =
      let r = rows F (0 + length (packed F xs)) zs in
      let a = rows_are W t in
      let b = rows_are W u in
      let d : F.width * m - F.width * n ≡ length r = omega (arith, ap length rows_split, length-append (rows F 0 xs) r) in
      z
      ∙ pad_unput (length l') (rows F 0 xs) r (u.lined ∙ ap (pad (length l')) rows_split) a d
      (omega (arith, u.rowroom, fewer-rows))
      ∙ ap (λ (i : ℕ). pad i (rows F 0 xs)) h
      ∙ sym t.lined

module _ (c k : Counts) (n m l q j l' q' j' : List ℕ) (w v : Book) (t : Layout c (five n m l q j) w) (u : Layout k (five n m l' q' j') v)
    (g : Grown w v) where
  -- there is as much as there was, and it lies within the buffers
  pub back_asks : Reaches c k l' q' j'
  unfolding line_form edit_form
  back_asks =
      let a = fewer-rows (line_laws (frame_of c)) t.lines u.lines g.more g.lines in
      let b = fewer_bytes t.lines u.lines g.more g.lines in
      let d = fewer-rows edit_laws t.edits u.edits g.done g.edits in
      (omega (arith, a), u.lines.rowroom, b, u.lines.byteroom, omega (arith, d), u.edits.rowroom)

  -- the zeros are put there: l'' q'' j'' are the buffers behind that
  pub taken_back : Rooms (five n m l' q' j') (five n m l q j) → (l'' q'' j'' : List ℕ) → Clears c k l' q' j' l'' q'' j'' → five n m l'' q'' j'' ≡ five n m l q j
  unfolding line_form edit_form
  taken_back r l'' q'' j'' a =
      let x = rows_back (line_laws (frame_of c)) t.lines u.lines g.more g.lines r.lines a.0 in
      let y = bytes_back t.lines u.lines g.more g.lines r.pool a.1 in
      let z = rows_back edit_laws t.edits u.edits g.done g.edits r.journal a.2 in
      λ i. five n m (x i) (y i) (z i)
