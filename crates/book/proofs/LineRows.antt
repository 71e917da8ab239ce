-- The rows of lines in a packing: what each tells. Assumes nothing.
use Prim.Native.Nat.{ℕ, ◌+◌, ◌-◌, ◌*◌, ◌/◌, ◌%◌, ◌≤◌, ◌<◌}
use mathlib.Core.Path.{◌≡◌, sym, ap, ap₂, ◌∙◌}
use mathlib.Core.List.{List, [], ◌∷◌}
use mathlib.Core.Bool.{true}
use native.Mathlib.Numerals.{add-one, add-two, add-three, add-four}
use native.Mathlib.Omega.{arith}
use lib.Dec.{leb, ltb}
use borrow.Author.Tests.{leb-true}
use lib.ListN.{length, drop, get_or, set, take}
use lib.Seq.{paste, sets-eq}
use Rattle.numbers.specs.Limits.{token_limit}
use Rattle.lists.proofs.Tests.{both}
use Rattle.lists.specs.Each.{every}
use Rattle.packing.specs.Tables.{packed, packs, things}
use Rattle.packing.proofs.TableLaws.{every_at}
use Rattle.packing.proofs.Packings.{Packs, packs_is, row_cell, bytes_at, bytes-room}
use Rattle.book.specs.declared.Frame.{Frame}
use Rattle.book.specs.Books.{Line, no_line, with_offset}
use Rattle.book.specs.Layout.{LineLies, bytes_of_line, code_of, line_form, line_of, line_width, row_of_line}
use Rattle.book.specs.Sanity.{in_range, line_ok}
use Rattle.book.proofs.Forms.{Ranged, ranged, line_laws}

-- ---- a line whose fields are in range
-- is the line of its code
pub line_is : {nodes : ℕ} {x : Line} → Ranged nodes x → x ≡ with_offset x.offset (line_of x.node (code_of x) x.bytes)
line_is {nodes} {x} r =
    let a : code_of x % 32 / 4 ≡ x.class = omega arith in
    let b : code_of x % 4 / 2 ≡ x.section = omega arith in
    let c : code_of x % 2 ≡ x.language = omega arith in
    let d : code_of x / 32 ≡ x.struck = omega arith in
    simp (a, b, c, d)

pub code_below : {nodes : ℕ} {x : Line} → Ranged nodes x → code_of x < 64
code_below r = omega arith

-- and has few bytes
pub short-bytes : (nodes : ℕ) (x : Line) → in_range nodes x ≡ true → length x.bytes ≤ token_limit
unfolding in_range
short-bytes nodes x w =
    let a = both (ltb x.node nodes) _ w in
    let b = both (leb x.class 4) _ a.1 in
    let c = both (leb x.section 1) _ b.1 in
    let d = both (leb x.language 1) _ c.1 in
    let e = both (leb x.struck 1) _ d.1 in
    leb-true _ _ (both (leb (length x.bytes) token_limit) _ e.1).0

pub line-in_range : (frame : Frame) (x : Line) → line_ok frame x ≡ true → in_range frame.nodes x ≡ true
unfolding line_ok
line-in_range frame x w = (both _ _ w).0

-- lines that are right are in range
pub lines_in-range : (frame : Frame) (xs : List Line) → every (line_ok frame) xs ≡ true → every (in_range frame.nodes) xs ≡ true
unfolding every
lines_in-range frame [] w = w
lines_in-range frame (x ∷ xs) w =
    let h = both (line_ok frame x) (every (line_ok frame) xs) w in
    rw (line-in_range frame x h.0) (lines_in-range frame xs h.1)

-- ---- what a row tells
-- what the row of line i tells: it lies within the rows, and its bytes within the pool; its numbers and bytes are those of line i, which is right
pub record Row (frame : Frame) (n : ℕ) (l m : List ℕ) (i : ℕ) : Type 0 where
  pub lies : LineLies l m i
  pub node : get_or l (line_width * i) 0 ≡ (get_or (things line_form n l m) i no_line).node
  pub code : get_or l (line_width * i + 1) 0 ≡ code_of (get_or (things line_form n l m) i no_line)
  pub bytes : bytes_of_line l m i ≡ (get_or (things line_form n l m) i no_line).bytes
  pub offset : get_or l (line_width * i + 4) 0 ≡ (get_or (things line_form n l m) i no_line).offset
  pub right : line_ok frame (get_or (things line_form n l m) i no_line) ≡ true

module _ (frame : Frame) (n p : ℕ) (l m : List ℕ) (g : packs line_form (line_ok frame) n p l m ≡ true) where
  pub lines_packed : Packs line_form (line_ok frame) n p l m (things line_form n l m)
  lines_packed = packs_is (line_laws frame) g

  pub lines-count : length (things line_form n l m) ≡ n
  lines-count = sym lines_packed.count

  pub line_row : (i : ℕ) → i < n → Row frame n l m i
  unfolding line_form
  line_row i h =
      let t = lines_packed in
      let xs : List Line = things line_form n l m in
      let w : i < length xs = omega (arith, t.count) in
      let o : ℕ = length (packed line_form (take i xs)) in
      let a : get_or l (line_width * i + 0) 0 ≡ (get_or xs i no_line).node = row_cell (line_laws frame) t i no_line w 0 (omega arith) in
      let z : line_width * i + 0 ≡ line_width * i = omega arith in
      let b : get_or l (line_width * i + 2) 0 ≡ o = row_cell (line_laws frame) t i no_line w 2 (omega arith) in
      let c : get_or l (line_width * i + 3) 0 ≡ length (get_or xs i no_line).bytes = row_cell (line_laws frame) t i no_line w 3 (omega arith) in
      record {
        lies = record {
          within = omega (arith, t.rowroom);
          room = omega (arith, b, c, bytes-room t i no_line w);
        };
        node = ap (λ (k : ℕ). get_or l k 0) (sym z) ∙ a;
        code = row_cell (line_laws frame) t i no_line w 1 (omega arith);
        bytes = ap₂ (λ (u v : ℕ). take u (drop v m)) c b ∙ bytes_at t i no_line w;
        offset = row_cell (line_laws frame) t i no_line w 4 (omega arith);
        right = every_at (line_ok frame) xs i no_line t.all w;
      }

module _ {frame : Frame} {n : ℕ} {l m : List ℕ} {i : ℕ} (r : Row frame n l m i) where
  pub row_ranged : Ranged frame.nodes (get_or (things line_form n l m) i no_line)
  row_ranged = ranged frame.nodes _ (line-in_range frame _ r.right)

  -- its node is one of the frame's, and its code and its bytes are below their limits
  pub row-node : get_or l (line_width * i) 0 < frame.nodes
  row-node = rw r.node row_ranged.node

  pub row-code : get_or l (line_width * i + 1) 0 < 64
  row-code = rw r.code (code_below row_ranged)

  pub row-short : length (bytes_of_line l m i) ≤ token_limit
  row-short = rw r.bytes (short-bytes frame.nodes _ (line-in_range frame _ r.right))

  -- the line is that of the row's numbers, with these bytes
  pub row_line : with_offset (get_or l (line_width * i + 4) 0) (line_of (get_or l (line_width * i) 0) (get_or l (line_width * i + 1) 0) (bytes_of_line l m i))
      ≡ get_or (things line_form n l m) i no_line
  row_line = rw (r.node, r.code, r.bytes, r.offset) (sym (line_is row_ranged))

-- ---- a walk through the rows
-- it stands at line i of n, whose rows and bytes are packed
pub record Walk (frame : Frame) (n p : ℕ) (l m : List ℕ) (i : ℕ) : Type 0 where
  pub packing : packs line_form (line_ok frame) n p l m ≡ true
  pub whole : line_width * n ≤ length l
  pub within : i ≤ n

module _ {frame : Frame} {n p : ℕ} {l m : List ℕ} where
  pub walk-starts : packs line_form (line_ok frame) n p l m ≡ true → Walk frame n p l m 0
  unfolding line_form
  walk-starts g = record { packing = g; whole = omega (arith, (lines_packed frame n p l m g).rowroom); within = omega arith }

  module _ {i : ℕ} (z : Walk frame n p l m i) where
    pub walk-row : i < n → Row frame n l m i
    walk-row h = line_row frame n p l m z.packing i h

    pub walk_on : i < n → Walk frame n p l m (i + 1)
    walk_on h = record { packing = z.packing; whole = z.whole; within = omega arith }

    pub walk-count : length (things line_form n l m) ≡ n
    walk-count = lines-count frame n p l m z.packing

    pub walk_ranged : every (in_range frame.nodes) (things line_form n l m) ≡ true
    walk_ranged = lines_in-range frame _ (lines_packed frame n p l m z.packing).all

-- ---- a row put store by store
pub row-stored : (l : List ℕ) (at node code start size offset : ℕ) → at + line_width ≤ length l
    → set (set (set (set (set l at node) (at + 1) code) (at + 2) start) (at + 3) size) (at + 4) offset
    ≡ paste l at (row_of_line node code start size offset) line_width
row-stored l at node code start size offset h =
    rw (add-one, add-two, add-three, add-four) (sets-eq (row_of_line node code start size offset) l at h)

-- ---- the bytes between a start and an end
pub part_sized : (start size : ℕ) (m : List ℕ) → take (start + size - start) (drop start m) ≡ take size (drop start m)
part_sized start size m =
    let e : start + size - start ≡ size = omega arith in
    rw e
