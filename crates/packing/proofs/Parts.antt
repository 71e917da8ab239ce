-- A part of a packing: the things from number i on, whose rows and bytes are lent by themselves, are a packing of the shifted form; and what is put in their
-- place, padded, leaves the whole packed, behind the first i. For every form. Assumes nothing.
use Prim.Native.Nat.{ℕ, zero, suc, ◌+◌, ◌-◌, ◌*◌, ◌≤◌}
use mathlib.Core.Path.{◌≡◌, refl, sym, ap, ap₂, ◌∙◌}
use mathlib.Core.Bool.{Bool}
use mathlib.Core.List.{List, [], ◌∷◌, ◌++◌, append_assoc}
use native.Mathlib.Nat.{mul-le-mul_left}
use native.Mathlib.Omega.{arith}
use lib.ListN.{length, take, drop, length-append, length-drop, take-append-drop}
use lib.Seq.{take-append_seam, drop-append_seam, length-take-le}
use Rattle.lists.specs.Each.{every}
use Rattle.packing.specs.Padding.{zeros, pad}
use Rattle.packing.specs.Tables.{Form, packed, rows, shifted, things}
use Rattle.packing.proofs.PaddingLaws.{pad-fits, pad-full, zeros-join}
use Rattle.packing.proofs.TableLaws.{Laws, every_rest, length-rows, packed-append, rows_append}
use Rattle.packing.proofs.Packings.{Packs, packs-from, rows_are}

-- ---- one buffer: xs and ys stand at the front of l, ys from a to e, and behind them are zeros
pub record Part (l xs ys : List ℕ) (a e : ℕ) : Type 0 where
  pub held : l ≡ pad (length l) (xs ++ ys)
  pub from : a ≡ length xs
  pub upto : e ≡ length (xs ++ ys)

module _ {l xs ys : List ℕ} {a e : ℕ} (w : Part l xs ys a e) where
  pub part_room : e ≤ length l
  part_room = omega (arith, w.upto, pad-fits l (xs ++ ys) w.held)

  pub part-order : a ≤ e
  part-order = omega (arith, w.from, w.upto, length-append xs ys)

  sized : e - a ≡ length ys
  sized = omega (arith, w.from, w.upto, length-append xs ys)

  whole : l ≡ xs ++ (ys ++ zeros (length l - length (xs ++ ys)))
  unfolding pad
  whole = w.held ∙ append_assoc xs ys _

  behind : drop a l ≡ ys ++ zeros (length l - length (xs ++ ys))
  behind = ap₂ drop w.from whole ∙ drop-append_seam xs _

  -- the part is ys
  pub part_is : take (e - a) (drop a l) ≡ ys
  part_is = ap₂ take sized behind ∙ take-append_seam ys _

  -- and zs in its place, padded, stands behind xs
  pub part-put : {l' : List ℕ} (zs : List ℕ) → length zs ≤ length ys → l' ≡ pad (length (take (e - a) (drop a l))) zs
      → take a l ++ (l' ++ drop (e - a) (drop a l)) ≡ pad (length l) (xs ++ zs)
  unfolding pad
  part-put zs h q =
      let front : take a l ≡ xs = ap₂ take w.from whole ∙ take-append_seam xs _ in
      let rest : drop (e - a) (drop a l) ≡ zeros (length l - length (xs ++ ys)) = ap₂ drop sized behind ∙ drop-append_seam ys _ in
      let n : length (take (e - a) (drop a l)) ≡ length ys = ap length part_is in
      let k : length ys - length zs + (length l - length (xs ++ ys)) ≡ length l - length (xs ++ zs)
      = omega (arith, part_room, w.upto, length-append xs ys, length-append xs zs) in
      let j = zeros-join (length ys - length zs) (length l - length (xs ++ ys)) (length l - length (xs ++ zs)) k in
      rw (q, front, rest, n) (simp (append_assoc, j))

-- ---- the shifted form
module _ {X : Type 0} (s : ℕ) (F : Form X) where
  -- has the same bytes
  pub shifted-packed : (xs : List X) → packed (shifted s F) xs ≡ packed F xs
  unfolding packed
  shifted-packed [] = refl
  shifted-packed (x ∷ xs) = ap (λ (bs : List ℕ). F.bytes x ++ bs) (shifted-packed xs)

  -- and the rows of things whose bytes start s further on
  pub shifted-rows : (o : ℕ) (xs : List X) → rows (shifted s F) o xs ≡ rows F (s + o) xs
  unfolding rows
  shifted-rows o [] = refl
  shifted-rows o (x ∷ xs) =
      ap (λ (r : List ℕ). F.row (s + o) x ++ r)
      (shifted-rows (o + length (F.bytes x)) xs ∙ ap (λ (k : ℕ). rows F k xs) (omega arith))

  -- and reads the same things
  pub shifted-things : (n : ℕ) (l ps : List ℕ) → things (shifted s F) n l ps ≡ things F n l ps
  unfolding things
  shifted-things zero l ps = refl
  shifted-things (suc n) l ps =
      ap (λ (xs : List X). F.back l (take (F.size l) ps) ∷ xs) (shifted-things n (drop F.width l) (drop (F.size l) ps))

-- and is one where F is
pub shifted_laws : {X : Type 0} {ok : X → Bool} {F : Form X} (s : ℕ) → Laws F ok → Laws (shifted s F) ok
shifted_laws s W = record {
  long = λ o x. W.long (s + o) x;
  row_starts = λ o x t. W.row_starts (s + o) x t;
  row_size = λ o x t. W.row_size (s + o) x t;
  row_back = λ o x t. W.row_back (s + o) x t;
  back_row = λ o l bs. W.back_row (s + o) l bs;
  back_bytes = W.back_bytes;
}

-- ---- the things from number i on
module _ {X : Type 0} {ok : X → Bool} {F : Form X} (W : Laws F ok) {n k : ℕ} {l p : List ℕ} {xs : List X} (t : Packs F ok n k l p xs) {i o : ℕ}
    (h : i ≤ n) (from : o ≡ length (packed F (take i xs))) where
  split : take i xs ++ drop i xs ≡ xs
  split = take-append-drop i xs

  first : length (take i xs) ≡ i
  first = length-take-le i xs (omega (arith, t.count))

  rows_whole : rows F 0 xs ≡ rows F 0 (take i xs) ++ rows F o (drop i xs)
  rows_whole =
      ap (rows F 0) (sym split) ∙ rows_append F 0 (take i xs) (drop i xs)
      ∙ ap (λ (m : ℕ). rows F 0 (take i xs) ++ rows F m (drop i xs)) (omega arith)

  bytes_whole : packed F xs ≡ packed F (take i xs) ++ packed F (drop i xs)
  bytes_whole = ap (packed F) (sym split) ∙ packed-append F (take i xs) (drop i xs)

  rows-part : Part l (rows F 0 (take i xs)) (rows F o (drop i xs)) (F.width * i) (F.width * n)
  rows-part = record {
    held = t.lined ∙ ap (pad (length l)) rows_whole;
    from = sym (length-rows W 0 (take i xs) ∙ ap (λ (m : ℕ). F.width * m) first);
    upto = rows_are W t ∙ ap length rows_whole;
  }

  bytes-part : Part p (packed F (take i xs)) (packed F (drop i xs)) o k
  bytes-part = record {
    held = t.pooled ∙ ap (pad (length p)) bytes_whole;
    from = from;
    upto = t.total ∙ ap length bytes_whole;
  }

  -- their rows and their bytes, as they are lent
  rest_rows : take (F.width * n - F.width * i) (drop (F.width * i) l) ≡ rows F o (drop i xs)
  rest_rows = part_is rows-part

  rest_bytes : take (k - o) (drop o p) ≡ packed F (drop i xs)
  rest_bytes = part_is bytes-part

  -- lie within the buffers
  pub rest_order : (F.width * i ≤ F.width * n) × (o ≤ k)
  rest_order = (part-order rows-part, part-order bytes-part)

  -- and are a packing of the shifted form
  pub rest_packs : Packs (shifted o F) ok (n - i) (k - o) (take (F.width * n - F.width * i) (drop (F.width * i) l)) (take (k - o) (drop o p)) (drop i xs)
  rest_packs =
      let r : rows (shifted o F) 0 (drop i xs) ≡ rows F o (drop i xs) = shifted-rows o F 0 (drop i xs) ∙ ap (λ (m : ℕ). rows F m (drop i xs)) (omega arith) in
      let b : packed (shifted o F) (drop i xs) ≡ packed F (drop i xs) = shifted-packed o F (drop i xs) in
      let c : n - i ≡ length (drop i xs) = omega (arith, t.count, length-drop i xs) in
      let q : k - o ≡ length (packed F (drop i xs)) = omega (arith, from, bytes-part.upto, length-append (packed F (take i xs)) (packed F (drop i xs))) in
      packs-from (shifted_laws o W) (length (rows F o (drop i xs))) (length (packed F (drop i xs))) c (q ∙ ap length (sym b))
      (every_rest ok (take i xs) (drop i xs) (ap (every ok) split ∙ t.all))
      (rest_rows ∙ sym r ∙ pad-full _ ∙ ap (λ (u : List ℕ). pad (length u) (rows (shifted o F) 0 (drop i xs))) r)
      (rest_bytes ∙ sym b ∙ pad-full _ ∙ ap (λ (u : List ℕ). pad (length u) (packed (shifted o F) (drop i xs))) b)
      (omega (arith, length-rows W o (drop i xs), ap (λ (m : ℕ). F.width * m) c))
      (omega arith)

  -- and others in their place, which need no more room, leave the layout of the first i and of these
  pub rest_rows_put : {l' : List ℕ} (ks : List X) → length ks ≤ length (drop i xs)
      → l' ≡ pad (length (take (F.width * n - F.width * i) (drop (F.width * i) l))) (rows F o ks)
      → take (F.width * i) l ++ (l' ++ drop (F.width * n - F.width * i) (drop (F.width * i) l)) ≡ pad (length l) (rows F 0 (take i xs ++ ks))
  rest_rows_put ks g q =
      part-put rows-part (rows F o ks) (rw (length-rows W o ks, length-rows W o (drop i xs)) (mul-le-mul_left F.width g)) q
      ∙ ap (pad (length l)) (sym (rows_append F 0 (take i xs) ks ∙ ap (λ (m : ℕ). rows F 0 (take i xs) ++ rows F m ks) (omega arith)))

  pub rest_bytes_put : {p' : List ℕ} (ks : List X) → length (packed F ks) ≤ length (packed F (drop i xs))
      → p' ≡ pad (length (take (k - o) (drop o p))) (packed F ks)
      → take o p ++ (p' ++ drop (k - o) (drop o p)) ≡ pad (length p) (packed F (take i xs ++ ks))
  rest_bytes_put ks g q = part-put bytes-part (packed F ks) g q ∙ ap (pad (length p)) (sym (packed-append F (take i xs) ks))
