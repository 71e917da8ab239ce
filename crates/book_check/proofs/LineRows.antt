-- The rows of lines, one by one: the check of a packing, and the search for a general `*` among the locals. The premises are what the code
-- has learned. Assumes nothing.
use Prim.Native.Nat.{ℕ, zero, suc, ◌+◌, ◌-◌, ◌*◌, ◌/◌, ◌%◌, ◌≤◌, ◌<◌}
use mathlib.Core.Path.{◌≡◌, refl, sym, ap, ◌∙◌}
use mathlib.Core.List.{List, []}
use mathlib.Core.Bool.{Bool, true, false, not}
use native.Mathlib.Nat.{add-sub_cancel_left}
use native.Mathlib.Numerals.{add-one}
use native.Mathlib.Omega.{arith}
use borrow.Author.Tests.{eq-eqb, ne_eqb, not-true, not-false}
use lib.ListN.{length, take, drop, get_or, drop_of_length-le}
use lib.Seq.{drop-cons, get_or-drop}
use Rattle.packing.specs.Padding.{all_zero}
use Rattle.lists.specs.Each.{any}
use Rattle.packing.specs.Tables.{Form, fine, packs, things}
use Rattle.packing.proofs.Turns.{left, starts_at, size_at, thing_at, left_all, row_bad, size_bad, thing_bad, row_more, end_bad, end_good, packs_no, packs-zero, packs-rows}
use Rattle.book.specs.declared.Frame.{Frame}
use Rattle.book.specs.Books.{Line, no_line, with_offset}
use Rattle.book.specs.Layout.{line_form, line_of, line_width}
use Rattle.book.specs.Sanity.{bare_star, line_ok, some_star}
use Rattle.book.proofs.Forms.{line_laws}

-- ---- the check of n rows: row i starts at `at`, its bytes at o, and what is left from there on decides
pub record Lined (frame : Frame) (l ps : List ℕ) (n p i at o : ℕ) : Type 0 where
  pub within : i ≤ n
  pub place : at ≡ line_width * i
  pub upto : o ≤ p
  pub goes : fine line_form (line_ok frame) p n 0 l ps ≡ left line_form (line_ok frame) p n i o l ps

-- a number of a row
row_number : (l : List ℕ) (i at j : ℕ) → at ≡ line_width * i → get_or (drop (line_width * i) l) j 0 ≡ get_or l (at + j) 0
row_number l i at j e = get_or-drop (line_width * i) l j 0 ∙ ap (λ (k : ℕ). get_or l (k + j) 0) (sym e)

row_first : (l : List ℕ) (i at : ℕ) → at ≡ line_width * i → get_or (drop (line_width * i) l) 0 0 ≡ get_or l at 0
row_first l i at e = let z : at + 0 ≡ at = omega arith in row_number l i at 0 e ∙ ap (λ (k : ℕ). get_or l k 0) z

module _ {frame : Frame} {l ps : List ℕ} {n p : ℕ} where
  pub lines_start : Lined frame l ps n p 0 0 0
  lines_start = record { within = omega arith; place = omega arith; upto = omega arith; goes = left_all line_form (line_ok frame) p n l ps }

  module _ {i at o : ℕ} (z : Lined frame l ps n p i at o) where
    module _ (room : line_width * n ≤ length l) (more : i < n) where
      sized : size_at line_form i l ≡ get_or l (at + 3) 0
      unfolding line_form
      sized = row_number l i at 3 z.place

      started : get_or l (at + 2) 0 ≡ o → starts_at line_form i o l ≡ true
      unfolding line_form
      started s = eq-eqb _ _ (row_number l i at 2 z.place ∙ s)

      -- a row that does not tell o as its start
      pub start_wrong : (get_or l (at + 2) 0 ≡ o → ⊥) → false ≡ fine line_form (line_ok frame) p n 0 l ps
      unfolding line_form
      start_wrong f =
          sym (z.goes ∙ row_bad line_form (line_ok frame) p n l ps i o more room (ne_eqb _ _ (λ e. f (sym (row_number l i at 2 z.place) ∙ e))))

      -- a row that tells bytes past p
      pub size_wrong : p - o < get_or l (at + 3) 0 → false ≡ fine line_form (line_ok frame) p n 0 l ps
      unfolding line_form
      size_wrong h = sym (z.goes ∙ size_bad line_form (line_ok frame) p n l ps i o more room (omega (arith, sized)))

      module _ {r : Bool}
          (t : r ≡ line_ok frame (with_offset (get_or l (at + 4) 0) (line_of (get_or l at 0) (get_or l (at + 1) 0) (take (o + get_or l (at + 3) 0 - o) (drop o ps))))) where
        -- the line that the row and its bytes are
        lined : r ≡ line_ok frame (thing_at line_form i o l ps)
        unfolding line_form
        lined =
            t ∙ rw (
              row_first l i at z.place,
              row_number l i at 1 z.place,
              row_number l i at 3 z.place,
              row_number l i at 4 z.place,
              add-sub_cancel_left o (get_or l (at + 3) 0),
            )

        pub line_wrong : not r ≡ true → false ≡ fine line_form (line_ok frame) p n 0 l ps
        unfolding line_form
        line_wrong f = sym (z.goes ∙ thing_bad line_form (line_ok frame) p n l ps i o more room (sym lined ∙ not-true r f))

        pub line-right : get_or l (at + 2) 0 ≡ o → get_or l (at + 3) 0 ≤ p - o → not r ≡ false
            → Lined frame l ps n p (i + 1) (at + line_width) (o + get_or l (at + 3) 0)
        unfolding line_form
        line-right s h f = record {
          within = omega arith;
          place = omega (arith, z.place);
          upto = omega (arith, z.upto);
          goes = z.goes ∙ row_more line_form (line_ok frame) p n l ps i o more room (started s) (omega (arith, sized)) (sym lined ∙ not-false r f)
              ∙ ap (λ (k : ℕ). left line_form (line_ok frame) p n (i + 1) (o + k) l ps) sized;
        }

    module _ (done : n ≤ i) where
      -- bytes that do not end at p
      pub end_wrong : (o ≡ p → ⊥) → false ≡ fine line_form (line_ok frame) p n 0 l ps
      end_wrong f = sym (z.goes ∙ end_bad line_form (line_ok frame) p n l ps i o (omega (arith, z.within)) f)

      pub lines_end : {r : Bool} → o ≡ p → r ≡ all_zero (drop at l) → r ≡ fine line_form (line_ok frame) p n 0 l ps
      unfolding line_form
      lines_end f e =
          let k : at ≡ line_width * n = omega (arith, z.within, z.place) in
          e ∙ ap (λ (m : ℕ). all_zero (drop m l)) k ∙ sym (z.goes ∙ end_good line_form (line_ok frame) p n l ps i o (omega (arith, z.within)) f)

-- ---- the test of the packing, from its parts
module _ (frame : Frame) (l ps : List ℕ) (n p : ℕ) where
  pub pool-short : length ps < p → false ≡ packs line_form (line_ok frame) n p l ps
  pool-short h = packs_no (line_laws frame) (λ t. omega (arith, t.byteroom))

  pub lines-short : length l / line_width < n → false ≡ packs line_form (line_ok frame) n p l ps
  unfolding line_form
  lines-short h = packs_no (line_laws frame) (λ t. omega (arith, t.rowroom))

  module _ (z : Bool) (e : z ≡ all_zero (drop p ps)) where
    pub pool_left : not z ≡ true → false ≡ packs line_form (line_ok frame) n p l ps
    pool_left f = packs-zero line_form (line_ok frame) n p l ps e (not-true z f)

    pub lines_left : (r : Bool) → p ≤ length ps → not z ≡ false → r ≡ fine line_form (line_ok frame) p n 0 l ps → r ≡ packs line_form (line_ok frame) n p l ps
    lines_left r h f q = packs-rows line_form (line_ok frame) n p l ps h e (not-false z f) q

-- ---- things of rows, and what the code in a line's row tells of it
module _ {X : Type 0} (F : Form X) where
  pub length-things : (n : ℕ) (l ps : List ℕ) → length (things F n l ps) ≡ n
  unfolding things
  length-things zero l ps = refl
  length-things (suc n) l ps = ap suc (length-things n (drop F.width l) (drop (F.size l) ps))

pub record Coded (x : Line) (code : ℕ) : Type 0 where
  pub class : x.class ≡ code % 32 / 4
  pub section : x.section ≡ code % 4 / 2
  pub language : x.language ≡ code % 2
  pub struck : x.struck ≡ code / 32

pub line_coded : (n : ℕ) (l ps : List ℕ) (i : ℕ) → i < n → Coded (get_or (things line_form n l ps) i no_line) (get_or l (line_width * i + 1) 0)
unfolding things line_form
line_coded zero l ps i h = absurd (omega arith)
line_coded (suc n) l ps zero h = record { class = refl; section = refl; language = refl; struck = refl }
line_coded (suc n) l ps (suc i) h =
    let e : line_width + (line_width * i + 1) ≡ line_width * suc i + 1 = omega arith in
    rw (← e, ← get_or-drop line_width l (line_width * i + 1) 0) (line_coded n (drop line_width l) (drop (get_or l 3 0) ps) i (omega arith))

-- ---- the search for a general `*` among the locals: the lines from i on decide
pub record Starring (l ps : List ℕ) (n i at : ℕ) : Type 0 where
  pub within : i ≤ n
  pub place : at ≡ line_width * i
  pub goes : some_star (things line_form n l ps) ≡ some_star (drop i (things line_form n l ps))

module _ {l ps : List ℕ} {n : ℕ} where
  pub stars_start : Starring l ps n 0 0
  stars_start = record { within = omega arith; place = omega arith; goes = refl }

  module _ {i at : ℕ} (z : Starring l ps n i at) where
    module _ (more : i < n) {r : Bool} (k : r ≡ bare_star (line_of 0 (get_or l (at + 1) 0) [])) where
      here : bare_star (get_or (things line_form n l ps) i no_line) ≡ r
      unfolding bare_star
      here =
          let x = line_coded n l ps i more in
          rw (x.class, x.section, x.language, ← z.place) (sym k)

      pub star-found : r ≡ true → true ≡ some_star (things line_form n l ps)
      unfolding any some_star
      star-found t =
          let h : i < length (things line_form n l ps) = omega (arith, length-things line_form n l ps) in
          sym (z.goes ∙ rw (drop-cons (things line_form n l ps) i no_line h, here, t))

      pub star_next : r ≡ false → Starring l ps n (i + 1) (at + line_width)
      unfolding any some_star
      star_next t =
          let h : i < length (things line_form n l ps) = omega (arith, length-things line_form n l ps) in
          record {
            within = omega arith;
            place = omega (arith, z.place);
            goes = z.goes ∙ rw (add-one, drop-cons (things line_form n l ps) i no_line h, here, t);
          }

    pub star_none : n ≤ i → false ≡ some_star (things line_form n l ps)
    unfolding any some_star
    star_none h =
        sym (z.goes ∙ rw (drop_of_length-le (things line_form n l ps) {i = i} (omega (arith, length-things line_form n l ps))))
