-- The lines of a book, one at a turn of `show_lines`: how much room they take, and how a line is put behind those before it. Assumes nothing.
use Prim.Native.Nat.{ℕ, ◌+◌, ◌*◌, ◌<◌, ◌≤◌}
use mathlib.Core.Path.{◌≡◌, refl, sym, ap, subst, ◌∙◌}
use mathlib.Core.Bool.{true}
use mathlib.Core.List.{List, [], ◌∷◌, ◌++◌, append_assoc, append-nil}
use native.Mathlib.Numerals.{add-one}
use native.Mathlib.Omega.{arith}
use lib.ListN.{length, take, get_or, length-append}
use lib.Seq.{length-take-le, take_all, take-suc}
use Rattle.packing.specs.Tables.{packed, things}
use Rattle.packing.proofs.Packings.{bytes-within}
use Rattle.book.specs.declared.Counts.{Counts}
use Rattle.book.specs.Books.{Line, no_line, with_offset}
use Rattle.book.specs.Layout.{LineLies, bytes_of_line, five, frame_of, line_form, line_of, line_width}
use Rattle.book.specs.View.{book_of, holds}
use Rattle.book.proofs.Asking.{held-book}
use Rattle.book.proofs.LineRows.{Row, Walk, lines_packed, row_line, row-short, walk-count, walk_on, walk-row, walk-starts}
use Rattle.printing.specs.Printing.{Begins, Puts}
use Rattle.printing.proofs.Pieces.{begins, puts-both, puts-long, puts-nothing}
use Rattle.printing_book.specs.Shown.{line_shown, lines_shown, shown_room}
use Rattle.printing_book.proofs.Fields.{few-line}

lines-append : (k : ℕ) (xs ys : List Line) → lines_shown k (xs ++ ys) ≡ lines_shown k xs ++ lines_shown (k + length xs) ys
unfolding lines_shown
lines-append k [] ys = ap (λ (n : ℕ). lines_shown n ys) (omega arith)
lines-append k (x ∷ xs) ys =
    simp (lines-append (k + 1) xs ys, append_assoc)
    (ap (λ (n : ℕ). line_shown k x ++ (lines_shown (k + 1) xs ++ lines_shown n ys)) (omega arith))

few_lines : (k : ℕ) (xs : List Line) → length (lines_shown k xs) ≤ 89 * length xs + length (packed line_form xs)
unfolding lines_shown packed line_form
few_lines k [] = omega arith
few_lines k (x ∷ xs) =
    let f = few-line k x in
    let g = few_lines (k + 1) xs in
    simp length-append (omega arith)

next_line : (xs : List Line) (i : ℕ) → i < length xs → lines_shown 0 (take (i + 1) xs) ≡ lines_shown 0 (take i xs) ++ line_shown i (get_or xs i no_line)
unfolding lines_shown
next_line xs i h =
    let x : Line = get_or xs i no_line in
    let z : 0 + length (take i xs) ≡ i = omega (arith, length-take-le i xs (omega arith)) in
    rw (add-one, take-suc xs i no_line h)
    (lines-append 0 (take i xs) (x ∷ []) ∙ ap (λ (k : ℕ). lines_shown 0 (take i xs) ++ lines_shown k (x ∷ [])) z
    ∙ ap (λ (m : List ℕ). lines_shown 0 (take i xs) ++ m) (append-nil (line_shown i x)))

-- ---- the loop of `show_lines`: the lines before i stand
pub record Listed (c : Counts) (l m d out : List ℕ) (end i : ℕ) : Type 0 where
  pub walk : Walk (frame_of c) c.lines c.pool l m i
  pub room : shown_room c ≤ length d
  pub long : length out ≡ length d
  pub put : Puts d 0 (lines_shown 0 (take i (things line_form c.lines l m))) out end

pub lines_start : (c : Counts) (n m l p j d : List ℕ) → shown_room c ≤ length d → holds c (five n m l p j) ≡ true → Listed c l p d d 0 0
unfolding lines_shown
lines_start c n m l p j d room held = record {
  walk = walk-starts (held-book c (five n m l p j) held).lines;
  room = room;
  long = refl;
  put = puts-nothing d 0;
}

pub lines_end : (c : Counts) (n m l p j : List ℕ) {d out : List ℕ} {end i : ℕ} → Listed c l p d out end i → c.lines ≤ i
    → Begins d (lines_shown 0 (book_of c (five n m l p j)).lines) out end
unfolding book_of
lines_end c n m l p j {d} {out} {end} {i} z h =
    begins d _ (subst (λ (m : List Line). Puts d 0 (lines_shown 0 m) out end) (take_all i _ (omega (arith, walk-count z.walk))) z.put)

module _ {c : Counts} {l m d out : List ℕ} {end i : ℕ} (z : Listed c l m d out end i) (h : i < c.lines) where
  abbrev line : Line
  line = get_or (things line_form c.lines l m) i no_line

  there : i < length (things line_form c.lines l m)
  there = omega (arith, walk-count z.walk)

  row : Row (frame_of c) c.lines l m i
  row = walk-row z.walk h

  pub line-lies : LineLies l m i
  line-lies = row.lies

  line_room : end + 89 + length line.bytes ≤ length out
  unfolding shown_room line_form
  line_room =
      let k = z.room in
      let xs : List Line = things line_form c.lines l m in
      let f = few_lines 0 (take i xs) in
      let g = length-take-le i xs (omega (arith, there)) in
      let w = bytes-within (lines_packed (frame_of c) c.lines c.pool l m z.walk.packing) i no_line there in
      omega (arith, z.put.0, z.long)

  -- its bytes, as they are lent
  module _ {bs : List ℕ} (b : bs ≡ bytes_of_line l m i) where
    pub line-fits : (end + 89 + length bs ≤ length out) × (length bs < 4294967296)
    line-fits = rw b (omega (arith, line_room, ap length row.bytes), omega (arith, row-short row))

    pub line-listed : {out' : List ℕ} {r : ℕ}
        → Puts out end (line_shown i (with_offset (get_or l (line_width * i + 4) 0) (line_of (get_or l (line_width * i) 0) (get_or l (line_width * i + 1) 0) bs))) out' r
        → Listed c l m d out' r (i + 1)
    line-listed {out'} {r} p =
        let xs : List Line = things line_form c.lines l m in
        let q : Puts out end (line_shown i line) out' r = rw (b, row_line row) at p in
        let f = few-line i line in
        let g = line_room in
        record {
          walk = walk_on z.walk h;
          room = z.room;
          long = puts-long out end (line_shown i line) (omega arith) q ∙ z.long;
          put = subst (λ (t : List ℕ). Puts d 0 t out' r) (sym (next_line xs i there))
              (puts-both d 0 (lines_shown 0 (take i xs)) (line_shown i line) (omega (arith, z.put.0, z.long)) z.put q);
        }
