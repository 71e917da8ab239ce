-- A packing that is packed again in place, some of its things left out: what is kept stands at the front of each buffer, what is not yet read stands where it
-- was, and between them is what is given up. For every form. The premises are what the code has learned. Assumes nothing.
use Prim.Native.Nat.{ℕ, ◌+◌, ◌-◌, ◌*◌, ◌≤◌, ◌<◌}
use mathlib.Core.Path.{◌≡◌, refl, sym, ap, ap₂, ◌∙◌}
use mathlib.Core.Bool.{Bool, true}
use mathlib.Core.List.{List, [], ◌∷◌, ◌++◌, append-nil}
use native.Mathlib.Nat.{mul-suc, mul-zero, mul-le-mul_left}
use native.Mathlib.Numerals.{add-one}
use native.Mathlib.Omega.{arith}
use lib.ListN.{length, take, drop, get_or, length-append, length-drop}
use lib.Seq.{paste, length-paste, take-paste, drop-drop, take-length, take_all, get_or-drop}
use Rattle.packing.specs.Padding.{zeros, pad, all_zero}
use Rattle.packing.specs.Tables.{Form, rows, packed}
use Rattle.packing.proofs.PaddingLaws.{all_zero_is, pad_rest, part-cleared, paste_behind, zeros-join}
use Rattle.packing.proofs.TableLaws.{Laws, rows_append, packed-append, length-rows}
use Rattle.packing.proofs.Packings.{Packs, row_cell, rows_are, bytes_at, bytes-within, packed_next}

-- ---- one buffer: xs stands at the front of l, and from o on l is as it was in l₀
pub record Window (l l₀ xs : List ℕ) (o : ℕ) : Type 0 where
  pub front : take (length xs) l ≡ xs
  pub rest : drop o l ≡ drop o l₀
  pub order : length xs ≤ o
  pub room : o ≤ length l₀
  pub long : length l ≡ length l₀

pub window_start : {l : List ℕ} → Window l l [] 0
window_start = record { front = refl; rest = refl; order = omega arith; room = omega arith; long = refl }

module _ {l l₀ xs : List ℕ} {o : ℕ} (w : Window l l₀ xs o) where
  -- what stands further on is read as it was
  pub window_read : (k : ℕ) → get_or l (o + k) 0 ≡ get_or l₀ (o + k) 0
  window_read k = sym (get_or-drop o l k 0) ∙ ap (λ (m : List ℕ). get_or m k 0) w.rest ∙ get_or-drop o l₀ k 0

  -- k more are read
  pub window_skip : (k : ℕ) → o + k ≤ length l₀ → Window l l₀ xs (o + k)
  window_skip k h = record {
    front = w.front;
    rest = sym (drop-drop k o l) ∙ ap (drop k) w.rest ∙ drop-drop k o l₀;
    order = omega (arith, w.order);
    room = h;
    long = w.long;
  }

  -- k more are read, and ys, which are no more, are pasted behind the front
  pub window_more : (ys : List ℕ) (k : ℕ) → length ys ≤ k → o + k ≤ length l₀
      → Window (paste l (length xs) ys (length ys)) l₀ (xs ++ ys) (o + k)
  window_more ys k h r =
      let n : length (xs ++ ys) ≡ length xs + length ys = length-append xs ys in
      record {
        front = rw (n, take-paste l (length xs) ys (length ys) (omega arith) (omega arith), w.front, take-length);
        rest = paste_behind l ys (length xs) (length ys) (o + k) (omega arith) (omega arith) (omega arith) ∙ (window_skip k r).rest;
        order = omega arith;
        room = r;
        long = length-paste l (length xs) ys (length ys) (omega arith) (omega arith) ∙ w.long;
      }

  -- where nothing is left to read, zeros over what is given up leave the front, padded: ys is what the part between holds then
  pub window_end : {ys : List ℕ} → all_zero (drop o l₀) ≡ true → ys ≡ zeros (length (take (o - length xs) (drop (length xs) l)))
      → take (length xs) l ++ (ys ++ drop (o - length xs) (drop (length xs) l)) ≡ pad (length l₀) xs
  unfolding pad
  window_end z q =
      let n : o - length xs + length (drop o l₀) ≡ length l₀ - length xs = omega (arith, length-drop o l₀) in
      let e : zeros (o - length xs) ++ drop o l ≡ zeros (length l₀ - length xs)
      = ap (λ (a : List ℕ). zeros (o - length xs) ++ a) (w.rest ∙ all_zero_is (drop o l₀) z)
      ∙ zeros-join (o - length xs) (length (drop o l₀)) (length l₀ - length xs) n in
      part-cleared l (length xs) o w.order (omega arith) q ∙ rw (w.front, e)

-- ---- both buffers of a packing of xs: i things are read, with o bytes; ks are kept of them, j things with w bytes
pub record Midway {X : Type 0} (F : Form X) (xs ks : List X) (l₀ p₀ l p : List ℕ) (i o j w : ℕ) : Type 0 where
  pub within : i ≤ length xs
  pub fewer : j ≤ i
  pub read : o ≡ length (packed F (take i xs))
  pub count : j ≡ length ks
  pub total : w ≡ length (packed F ks)
  pub lined : Window l l₀ (rows F 0 ks) (F.width * i)
  pub pooled : Window p p₀ (packed F ks) o

-- nothing is read
pub midway_start : {X : Type 0} {F : Form X} {xs : List X} {l₀ p₀ : List ℕ} → Midway F xs [] l₀ p₀ l₀ p₀ 0 0 0 0
unfolding rows packed
midway_start = record {
  within = omega arith;
  fewer = omega arith;
  read = refl;
  count = refl;
  total = refl;
  lined = rw mul-zero window_start;
  pooled = window_start;
}

module _ {X : Type 0} {ok : X → Bool} {F : Form X} {n k : ℕ} {l₀ p₀ : List ℕ} {xs : List X} (t : Packs F ok n k l₀ p₀ xs)
    {ks : List X} {l p : List ℕ} {i o j w : ℕ} (m : Midway F xs ks l₀ p₀ l p i o j w) (d : X) (h : i < length xs) where
  -- the bytes from o on are still those of thing i
  pub midway-bytes : take (length (F.bytes (get_or xs i d))) (drop o p) ≡ F.bytes (get_or xs i d)
  midway-bytes =
      ap (take (length (F.bytes (get_or xs i d)))) m.pooled.rest
      ∙ ap (λ (u : ℕ). take (length (F.bytes (get_or xs i d))) (drop u p₀)) m.read
      ∙ bytes_at t i d h

  -- and end within the bytes of all
  pub midway-within : o + length (F.bytes (get_or xs i d)) ≤ k
  midway-within = omega (arith, m.read, bytes-within t i d h)

  next_row : F.width * i + F.width ≡ F.width * (i + 1)
  next_row = rw (add-one, mul-suc)

  row_room : F.width * i + F.width ≤ length l₀
  row_room =
      let u : F.width * (i + 1) ≤ F.width * n = mul-le-mul_left F.width (omega (arith, t.count)) in
      omega (arith, next_row, t.rowroom)

  byte_room : o + length (F.bytes (get_or xs i d)) ≤ length p₀
  byte_room = omega (arith, midway-within, t.byteroom)

  next_byte : o + length (F.bytes (get_or xs i d)) ≡ length (packed F (take (i + 1) xs))
  next_byte = omega (arith, m.read, packed_next F xs i d h)

  -- thing i is left out
  pub midway-skip : Midway F xs ks l₀ p₀ l p (i + 1) (o + length (F.bytes (get_or xs i d))) j w
  midway-skip = record {
    within = omega arith;
    fewer = omega (arith, m.fewer);
    read = next_byte;
    count = m.count;
    total = m.total;
    lined = rw (← next_row) (window_skip m.lined F.width row_room);
    pooled = window_skip m.pooled (length (F.bytes (get_or xs i d))) byte_room;
  }

module _ {X : Type 0} {ok : X → Bool} {F : Form X} (W : Laws F ok) {n k : ℕ} {l₀ p₀ : List ℕ} {xs : List X} (t : Packs F ok n k l₀ p₀ xs)
    {ks : List X} {l p : List ℕ} {i o j w : ℕ} (m : Midway F xs ks l₀ p₀ l p i o j w) (d : X) (h : i < length xs) where
  -- number v of row i is still that of thing i
  pub midway_cell : (v : ℕ) → v < F.width → get_or l (F.width * i + v) 0 ≡ get_or (F.row o (get_or xs i d)) v 0
  midway_cell v g =
      window_read m.lined v
      ∙ row_cell W t i d h v g
      ∙ ap (λ (u : ℕ). get_or (F.row u (get_or xs i d)) v 0) (sym m.read)

  -- thing i is kept: its row, with w as its start, and its bytes are pasted behind what is kept
  pub midway-keep : {l' p' : List ℕ} → l' ≡ paste l (F.width * j) (F.row w (get_or xs i d)) F.width
      → p' ≡ paste p w (F.bytes (get_or xs i d)) (length (F.bytes (get_or xs i d)))
      → Midway F xs (ks ++ get_or xs i d ∷ []) l₀ p₀ l' p' (i + 1) (o + length (F.bytes (get_or xs i d))) (j + 1) (w + length (F.bytes (get_or xs i d)))
  unfolding rows packed
  midway-keep {l'} {p'} el ep =
      let x : X = get_or xs i d in
      let r : List ℕ = F.row w x in
      let b : List ℕ = F.bytes x in
      let long : length r ≡ F.width = W.long w x in
      let at : F.width * j ≡ length (rows F 0 ks) = ap (λ (u : ℕ). F.width * u) m.count ∙ sym (length-rows W 0 ks) in
      let z : 0 + length (packed F ks) ≡ w = omega (arith, m.total) in
      let rk : rows F 0 (ks ++ x ∷ []) ≡ rows F 0 ks ++ r = rows_append F 0 ks (x ∷ []) ∙ rw (z, append-nil) in
      let pk : packed F (ks ++ x ∷ []) ≡ packed F ks ++ b = packed-append F ks (x ∷ []) ∙ rw append-nil in
      let el' : l' ≡ paste l (length (rows F 0 ks)) r (length r) = el ∙ ap₂ (λ (u v : ℕ). paste l u r v) at (sym long) in
      let ep' : p' ≡ paste p (length (packed F ks)) b (length b) = ep ∙ ap (λ (u : ℕ). paste p u b (length b)) m.total in
      record {
        within = omega arith;
        fewer = omega (arith, m.fewer);
        read = next_byte t m d h;
        count = omega (arith, m.count, length-append ks (x ∷ []));
        total = rw pk (omega (arith, m.total, length-append (packed F ks) b));
        lined = rw (rk, ← next_row t m d h, el') (window_more m.lined r F.width (omega arith) (row_room t m d h));
        pooled = rw (pk, ep') (window_more m.pooled b (length b) (omega arith) (byte_room t m d h));
      }

-- ---- all are read: zeros over what is given up leave the layout of what is kept
module _ {X : Type 0} {ok : X → Bool} {F : Form X} {n k : ℕ} {l₀ p₀ : List ℕ} {xs : List X} (t : Packs F ok n k l₀ p₀ xs)
    {ks : List X} {l p : List ℕ} {i o j w : ℕ} (m : Midway F xs ks l₀ p₀ l p i o j w) (e : i ≡ n) where
  pub midway-read : o ≡ k
  midway-read = m.read ∙ ap (λ (ys : List X). length (packed F ys)) (take_all i xs (omega (arith, t.count))) ∙ sym t.total

  pub midway-packed : {ys : List ℕ} → ys ≡ zeros (length (take (o - w) (drop w p)))
      → take w p ++ (ys ++ drop (o - w) (drop w p)) ≡ pad (length p₀) (packed F ks)
  midway-packed q =
      let z : all_zero (drop o p₀) ≡ true
      = ap (λ (a : List ℕ). all_zero (drop o a)) t.pooled
      ∙ ap (λ (a : ℕ). all_zero (drop a (pad (length p₀) (packed F xs)))) (midway-read ∙ t.total)
      ∙ pad_rest (length p₀) (packed F xs) in
      rw m.total (window_end m.pooled z (rw m.total at q))

module _ {X : Type 0} {ok : X → Bool} {F : Form X} (W : Laws F ok) {n k : ℕ} {l₀ p₀ : List ℕ} {xs : List X} (t : Packs F ok n k l₀ p₀ xs)
    {ks : List X} {l p : List ℕ} {i o j w : ℕ} (m : Midway F xs ks l₀ p₀ l p i o j w) (e : i ≡ n) where
  pub midway-rows : {ys : List ℕ} → ys ≡ zeros (length (take (F.width * n - F.width * j) (drop (F.width * j) l)))
      → take (F.width * j) l ++ (ys ++ drop (F.width * n - F.width * j) (drop (F.width * j) l)) ≡ pad (length l₀) (rows F 0 ks)
  midway-rows q =
      let at : F.width * j ≡ length (rows F 0 ks) = ap (λ (u : ℕ). F.width * u) m.count ∙ sym (length-rows W 0 ks) in
      let u : F.width * n ≡ F.width * i = ap (λ (v : ℕ). F.width * v) (sym e) in
      let v : F.width * i ≡ length (rows F 0 xs) = sym u ∙ rows_are W t in
      let z : all_zero (drop (F.width * i) l₀) ≡ true
      = ap (λ (a : List ℕ). all_zero (drop (F.width * i) a)) t.lined
      ∙ ap (λ (a : ℕ). all_zero (drop a (pad (length l₀) (rows F 0 xs)))) v
      ∙ pad_rest (length l₀) (rows F 0 xs) in
      rw (at, u) (window_end m.lined z (rw (at, u) at q))
