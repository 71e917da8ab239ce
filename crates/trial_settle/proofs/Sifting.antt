-- The lines that stand, packed in place, turn by turn: the first i are read, and those of them that stand are packed at the front. Assumes nothing.
use Prim.Native.Nat.{ℕ, ◌+◌, ◌-◌, ◌*◌, ◌≤◌, ◌<◌}
use mathlib.Core.Path.{◌≡◌, sym, ap, ◌∙◌}
use mathlib.Core.List.{List, [], ◌∷◌, ◌++◌}
use mathlib.Core.Bool.{Bool, true, false}
use native.Mathlib.Omega.{arith}
use borrow.Author.Tests.{eq-eqb, leb-false, leb-true, ne_eqb}
use lib.ListN.{length, take, drop, get_or}
use lib.Seq.{paste, take_all}
use Rattle.packing.specs.Padding.{pad, zeros}
use Rattle.packing.specs.Tables.{packed, rows, things}
use Rattle.packing.proofs.TableLaws.{every_at}
use Rattle.packing.proofs.Packings.{Packs}
use Rattle.packing.proofs.Windows.{Midway, midway_start, midway_cell, midway-bytes, midway-within, midway-skip, midway-keep, midway-rows, midway-packed}
use Rattle.book.specs.Books.{Line, no_line}
use Rattle.book.specs.Edits.{line_at}
use Rattle.book.specs.Layout.{code_of, has_mark, line_form, line_width, row_of_line, struck_mark}
use Rattle.book.specs.Sanity.{line_ok}
use Rattle.book.proofs.Forms.{Ranged, line_laws, ranged}
use Rattle.book.proofs.LineRows.{line-in_range, lines_packed}
use Rattle.trial.specs.Trial.{standing}
use Rattle.trial.proofs.Standing.{standing-kept, standing-struck}
use Rattle.trial_settle.specs.Lines.{Packed, Settled}

-- i lines are read, with `read` bytes; j of them stand, with `written` bytes
pub record Sifting (n : ℕ) (l₀ p₀ l p : List ℕ) (i read j written : ℕ) : Type 0 where
  pub asked : Packed n l₀ p₀
  pub within : i ≤ n
  pub fewer : j ≤ i
  pub order : written ≤ read
  pub upto : read ≤ asked.total
  pub rowroom : line_width * n ≤ length l
  pub byteroom : asked.total ≤ length p
  pub midway : Midway line_form (things line_form n l₀ p₀) (standing (take i (things line_form n l₀ p₀))) l₀ p₀ l p i read j written

module _ {n : ℕ} {l₀ p₀ : List ℕ} where
  packing : (a : Packed n l₀ p₀) → Packs line_form (line_ok a.frame) n a.total l₀ p₀ (things line_form n l₀ p₀)
  packing a = lines_packed a.frame n a.total l₀ p₀ a.lines

  sifting : (a : Packed n l₀ p₀) {l p : List ℕ} {i read j written : ℕ} → read ≤ a.total
      → Midway line_form (things line_form n l₀ p₀) (standing (take i (things line_form n l₀ p₀))) l₀ p₀ l p i read j written
      → Sifting n l₀ p₀ l p i read j written
  unfolding line_form
  sifting a h m =
      let t = packing a in
      record {
        asked = a;
        within = omega (arith, m.within, t.count);
        fewer = m.fewer;
        order = omega (arith, m.pooled.order, m.total);
        upto = h;
        rowroom = omega (arith, m.lined.long, t.rowroom);
        byteroom = omega (arith, m.pooled.long, t.byteroom);
        midway = m;
      }

  -- nothing is read at first
  pub sift_starts : Packed n l₀ p₀ → Sifting n l₀ p₀ l₀ p₀ 0 0 0 0
  unfolding standing
  sift_starts a = sifting a (omega arith) midway_start

  module _ {l p : List ℕ} {i read j written : ℕ} (s : Sifting n l₀ p₀ l p i read j written) where
    abbrev lines : List Line
    lines = things line_form n l₀ p₀

    module _ (h : i < n) where
      below : i < length lines
      below = omega (arith, (packing s.asked).count)

      -- the numbers of row i are those of line i, and so are the bytes from `read` on
      cell_now : (v : ℕ) → v < line_width → get_or l (line_width * i + v) 0 ≡ get_or (line_form.row read (line_at lines i)) v 0
      unfolding line_form
      cell_now v g = midway_cell (line_laws s.asked.frame) (packing s.asked) s.midway no_line below v g

      node_now : get_or l (line_width * i) 0 ≡ (line_at lines i).node
      unfolding line_form
      node_now = let z : line_width * i + 0 ≡ line_width * i = omega arith in rw z at (cell_now 0 (omega arith))

      code_now : get_or l (line_width * i + 1) 0 ≡ code_of (line_at lines i)
      unfolding line_form
      code_now = cell_now 1 (omega arith)

      size_now : get_or l (line_width * i + 3) 0 ≡ length (line_at lines i).bytes
      unfolding line_form
      size_now = cell_now 3 (omega arith)

      offset_now : get_or l (line_width * i + 4) 0 ≡ (line_at lines i).offset
      unfolding line_form
      offset_now = cell_now 4 (omega arith)

      bytes_now : take (length (line_at lines i).bytes) (drop read p) ≡ (line_at lines i).bytes
      unfolding line_form
      bytes_now = midway-bytes (packing s.asked) s.midway no_line below

      line_ranged : Ranged s.asked.frame.nodes (line_at lines i)
      line_ranged =
          let a = s.asked in
          ranged a.frame.nodes (line_at lines i)
          (line-in_range a.frame (line_at lines i) (every_at (line_ok a.frame) lines i no_line (packing a).all below))

      -- its bytes end within those of all
      pub sift_fits : read + get_or l (line_width * i + 3) 0 ≤ s.asked.total
      unfolding line_form
      sift_fits =
          let w : read + length (line_at lines i).bytes ≤ s.asked.total = midway-within (packing s.asked) s.midway no_line below in
          omega (arith, size_now)

      -- a struck line is left out
      pub sift_skips : {x : Bool} → x ≡ has_mark (get_or l (line_width * i + 1) 0) → x ≡ true
          → Sifting n l₀ p₀ l p (i + 1) (read + get_or l (line_width * i + 3) 0) j written
      unfolding line_form
      sift_skips v t =
          let a = s.asked in
          let g = leb-true struck_mark (get_or l (line_width * i + 1) 0) (sym v ∙ t) in
          let f : (line_at lines i).struck ≡ 0 → ⊥ = λ z. omega (arith, code_now, line_ranged) in
          let e : standing (take (i + 1) lines) ≡ standing (take i lines) = standing-struck lines i below (ne_eqb (line_at lines i).struck 0 f) in
          sifting a sift_fits (rw (e, size_now) (midway-skip (packing a) s.midway no_line below))

      -- a line that stands is packed
      pub sift_keeps : {l' p' : List ℕ} {u : Bool} → u ≡ has_mark (get_or l (line_width * i + 1) 0) → u ≡ false
          → l' ≡ paste l (line_width * j) (row_of_line (get_or l (line_width * i) 0) (get_or l (line_width * i + 1) 0) written (get_or l (line_width * i + 3) 0)
          (get_or l (line_width * i + 4) 0)) line_width
          → p' ≡ paste p written (take (get_or l (line_width * i + 3) 0) (drop read p)) (get_or l (line_width * i + 3) 0)
          → Sifting n l₀ p₀ l' p' (i + 1) (read + get_or l (line_width * i + 3) 0) (j + 1) (written + get_or l (line_width * i + 3) 0)
      unfolding line_form
      sift_keeps {l'} {p'} v t el ep =
          let a = s.asked in
          let g = leb-false struck_mark (get_or l (line_width * i + 1) 0) (sym v ∙ t) in
          let x : Line = line_at lines i in
          let z : (line_at lines i).struck ≡ 0 = omega (arith, code_now) in
          let e : standing (take (i + 1) lines) ≡ standing (take i lines) ++ line_at lines i ∷ []
          = standing-kept lines i below (eq-eqb (line_at lines i).struck 0 z) in
          let el' : l' ≡ paste l (line_width * j) (line_form.row written x) line_width = rw (← node_now, ← code_now, ← size_now, ← offset_now) el in
          let ep' : p' ≡ paste p written x.bytes (length x.bytes)
          = ep
          ∙ ap (λ (k : ℕ). paste p written (take k (drop read p)) k) size_now
          ∙ ap (λ (b : List ℕ). paste p written b (length x.bytes)) bytes_now in
          sifting a sift_fits (rw (e, size_now) (midway-keep (line_laws a.frame) (packing a) s.midway no_line below el' ep'))

    -- all are read: ys and zs are what the cleared parts hold
    pub sift_ends : {ys zs : List ℕ} → n ≤ i
        → ys ≡ zeros (length (take (line_width * n - line_width * j) (drop (line_width * j) l)))
        → zs ≡ zeros (length (take (read - written) (drop written p)))
        → Settled n l₀ p₀ (take (line_width * j) l ++ (ys ++ drop (line_width * n - line_width * j) (drop (line_width * j) l)))
        (take written p ++ (zs ++ drop (read - written) (drop written p)))
        (record { lines = j; pool = written })
    unfolding line_form
    sift_ends h el ep =
        let a = s.asked in
        let e : i ≡ n = omega (arith, s.within) in
        let t : take i lines ≡ lines = take_all i lines (omega (arith, (packing a).count)) in
        record {
          lines = s.midway.count ∙ ap (λ (q : List Line). length (standing q)) t;
          pool = s.midway.total ∙ ap (λ (q : List Line). length (packed line_form (standing q))) t;
          lined = midway-rows (line_laws a.frame) (packing a) s.midway e el
              ∙ ap (λ (q : List Line). pad (length l₀) (rows line_form 0 (standing q))) t;
          pooled = midway-packed (packing a) s.midway e ep
              ∙ ap (λ (q : List Line). pad (length p₀) (packed line_form (standing q))) t;
        }
