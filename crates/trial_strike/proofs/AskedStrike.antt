-- A strike: what it makes of the book, the layout behind it, and the exits of `strike`. The Bool that is named x is whether the buffers hold a book, then
-- whether the line is struck, and y whether the journal has a row more. Assumes nothing.
use Prim.Native.Nat.{ℕ, ◌+◌, ◌*◌, ◌≤◌, ◌<◌}
use mathlib.Core.Path.{◌≡◌, refl, sym, ap, ◌∙◌}
use mathlib.Core.List.{List, [], ◌∷◌}
use mathlib.Core.Bool.{Bool, true, false, not}
use native.Mathlib.Omega.{arith}
use borrow.Author.Tests.{eq-eqb, le-ltb, leb-false, leb-true, lt-ltb, ne_eqb, not-false, not-true}
use lib.ListN.{length, get_or, set, length-set}
use lib.Seq.{paste, length-paste}
use Rattle.numbers.specs.Limits.{edit_limit}
use Rattle.numbers.specs.Refusals.{no_book, no_room, no_such, wrong_kind}
use Rattle.packing.proofs.Packings.{put_thing, set_thing}
use Rattle.book.specs.declared.Counts.{Counts}
use Rattle.book.specs.Books.{Book, no_line, rust, strike}
use Rattle.book.specs.Edits.{line_at, marked}
use Rattle.book.specs.Layout.{Buffers, code_of, counts_with, edit_form, edit_width, five, frame_of, has_mark, line_form, line_width, row_of_line, struck_mark}
use Rattle.book.specs.Sanity.{edit_ok}
use Rattle.book.specs.View.{book_of, holds, view}
use Rattle.book.proofs.Asking.{asked_none}
use Rattle.book.proofs.Forms.{edit_laws, line_laws}
use Rattle.book.proofs.Views.{Layout}
use Rattle.book_rooms.specs.Rooms.{edit_room, edit_row}
use Rattle.book_rooms.proofs.Rows.{edit_refusal, edit_within}
use Rattle.std.specs.Prelude.{Result, Ok, Err}
use Rattle.trial.specs.Changes.{Answers, no, to}
use Rattle.trial.specs.Trial.{strike_asked, strike_line, with_strike}
use Rattle.trial.proofs.Marking.{marked_ok}
use Rattle.trial.proofs.Marks.{code-stands, code-struck, line_code, line-right, line_room, line-within}
use Rattle.trial.proofs.Answers.{Shown, layout_answers, refusal_answers, shown}

-- ---- what a strike makes of the book
module _ {c : Counts} {b : Buffers} {w : Book} (t : Layout c b w) (i : ℕ) where
  past_line : c.lines ≤ i → strike_line b w i ≡ no no_such
  unfolding strike_line
  past_line g = let f : length w.lines ≤ i = omega (arith, t.lines.count) in rw (le-ltb i (length w.lines) f)

  module _ (h : i < c.lines) where
    struck-line : struck_mark ≤ get_or b.lines (line_width * i + 1) 0 → strike_line b w i ≡ no no_such
    unfolding strike_line
    struck-line g = rw (lt-ltb _ _ (line-within t i h), code-struck t i h g)

    module _ (g : get_or b.lines (line_width * i + 1) 0 < struck_mark) where
      no_row : edit_row b.journal c.edits ≡ false → strike_line b w i ≡ no no_room
      unfolding strike_line edit_room
      no_row f = rw (lt-ltb _ _ (line-within t i h), eq-eqb _ _ (code-stands t i h g), ← t.edits.count, f)

      module _ (f : edit_row b.journal c.edits ≡ true) where
        a_row : strike_line b w i ≡ to (with_strike w i)
        unfolding strike_line edit_room
        a_row = rw (lt-ltb _ _ (line-within t i h), eq-eqb _ _ (code-stands t i h g), ← t.edits.count, f)

        struck-layout : {l' j' : List ℕ} → l' ≡ set b.lines (line_width * i + 1) (get_or b.lines (line_width * i + 1) 0 + struck_mark)
            → j' ≡ paste b.journal (edit_width * c.edits) (strike ∷ i ∷ []) edit_width
            → Layout (counts_with c c.lines c.pool (c.edits + 1)) (five b.nodes b.names l' b.pool j') (with_strike w i)
        unfolding line_form edit_form edit_ok
        struck-layout el ej =
            let x = line_at w.lines i in
            let s : get_or b.lines (line_width * i + 1) 0 + struck_mark ≡ code_of (marked 1 x)
            = omega (arith, line_code t i h, code-stands t i h g) in
            record {
              kind = t.kind;
              limits = record {
                nodes = t.limits.nodes;
                lines = t.limits.lines;
                pool = t.limits.pool;
                edits = omega (arith, edit_refusal b.journal c.edits f);
              };
              nodes = t.nodes;
              lines = set_thing (line_laws (frame_of c)) t.lines i no_line (line-within t i h) 1 _
                  (marked 1 x) (omega arith) (marked_ok (frame_of c) 1 x (omega arith) (line-right t i h)) refl
                  (λ o. ap (λ (k : ℕ). row_of_line x.node k o (length x.bytes) x.offset) s) el;
              edits = put_thing edit_laws t.edits (record { what = strike; line = i }) refl
                  (omega (arith, edit_within b.journal c.edits f)) (omega arith) ej refl;
            }

-- ---- strike: r is answered, and b' left
abbrev pub Strikes : Counts → Buffers → ℕ → Result Counts ℕ → Buffers → Type 0
Strikes c b i = Answers c b (λ b w. strike_asked b w i)

-- a line of a book that may be edited is told
pub record Told (c : Counts) (b : Buffers) (i : ℕ) : Type 0 where
  pub book : Shown c b
  pub asks : strike_asked b (view c b) i ≡ strike_line b (book_of c b) i
  pub within : i < c.lines

-- it stands, and the journal has a row more
pub record Roomy (c : Counts) (b : Buffers) (i : ℕ) : Type 0 where
  pub told : Told c b i
  pub stands : get_or b.lines (line_width * i + 1) 0 < struck_mark
  pub row : edit_row b.journal c.edits ≡ true

module _ (c : Counts) (b : Buffers) (i : ℕ) (x : Bool) (e : x ≡ holds c b) where
  pub strike-no_book : not x ≡ true → Strikes c b i (Err no_book) b
  unfolding strike_asked
  strike-no_book h = refusal_answers b _ no_book (rw (asked_none c b x e h))

  module _ (h : not x ≡ false) where
    pub strike-rust : c.kind ≡ rust → Strikes c b i (Err wrong_kind) b
    unfolding strike_asked book_of
    strike-rust k = refusal_answers b _ wrong_kind (rw ((shown c b x e h).viewed, eq-eqb _ _ k))

    module _ (k : c.kind ≡ rust → ⊥) where
      asks-line : strike_asked b (view c b) i ≡ strike_line b (book_of c b) i
      unfolding strike_asked book_of
      asks-line = rw ((shown c b x e h).viewed, ne_eqb _ _ k)

      pub strike-past : c.lines ≤ i → Strikes c b i (Err no_such) b
      strike-past g = refusal_answers b _ no_such (asks-line ∙ past_line (shown c b x e h).layout i g)

      pub strike-told : i < c.lines → Told c b i
      strike-told g = record { book = shown c b x e h; asks = asks-line; within = g }

module _ {c : Counts} {b : Buffers} {i : ℕ} (t : Told c b i) where
  pub strike_line-room : line_width * i + 1 < length b.lines
  strike_line-room = omega (arith, line_room t.book.layout i t.within)

  module _ (x : Bool) (e : x ≡ has_mark (get_or b.lines (line_width * i + 1) 0)) where
    pub strike-struck : x ≡ true → Strikes c b i (Err no_such) b
    strike-struck h = refusal_answers b _ no_such (t.asks ∙ struck-line t.book.layout i t.within (leb-true _ _ (sym e ∙ h)))

    module _ (h : x ≡ false) (y : Bool) (f : y ≡ edit_row b.journal c.edits) where
      pub strike-no_room : not y ≡ true → Strikes c b i (Err no_room) b
      strike-no_room o =
          refusal_answers b _ no_room
          (t.asks ∙ no_row t.book.layout i t.within (leb-false _ _ (sym e ∙ h)) (sym f ∙ not-true y o))

      pub strike-roomy : not y ≡ false → Roomy c b i
      strike-roomy o = record { told = t; stands = leb-false _ _ (sym e ∙ h); row = sym f ∙ not-false y o }

module _ {c : Counts} {b : Buffers} {i : ℕ} (r : Roomy c b i) where
  pub strike-few : c.edits < edit_limit
  strike-few = edit_refusal b.journal c.edits r.row

  pub strike-row_room : edit_width * c.edits + edit_width ≤ length b.journal
  strike-row_room = omega (arith, edit_within b.journal c.edits r.row)

  pub strike-done : (d : Counts) (l' j' : List ℕ) → d ≡ counts_with c c.lines c.pool (c.edits + 1)
      → l' ≡ set b.lines (line_width * i + 1) (get_or b.lines (line_width * i + 1) 0 + struck_mark)
      → j' ≡ paste b.journal (edit_width * c.edits) (strike ∷ i ∷ []) edit_width
      → Strikes c b i (Ok d) (five b.nodes b.names l' b.pool j')
  strike-done d l' j' ed el ej =
      let t = r.told in
      rw ed
      (layout_answers _ b (five b.nodes b.names l' b.pool j') _ _
      (t.asks ∙ a_row t.book.layout i t.within r.stands r.row)
      (struck-layout t.book.layout i t.within r.stands r.row el ej)
      (record {
        nodes = refl;
        names = refl;
        lines = ap length el ∙ length-set b.lines (line_width * i + 1) _;
        pool = refl;
        journal = ap length ej ∙ length-paste b.journal (edit_width * c.edits) (strike ∷ i ∷ []) edit_width strike-row_room (omega arith);
      }))
