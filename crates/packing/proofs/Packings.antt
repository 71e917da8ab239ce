-- A packing: n rows in l and k bytes in p that are the layout of things. What passes the test `packs` is one, and gives its things again; one thing more,
-- the last one taken away, and another in the place of one make a packing; and its numbers and bytes are those of its things. Assumes nothing.
use Prim.Native.Nat.{ℕ, suc, ◌+◌, ◌-◌, ◌*◌, ◌≤◌, ◌<◌}
use mathlib.Core.Path.{◌≡◌, refl, sym, ap, ◌∙◌}
use mathlib.Core.Bool.{Bool, true}
use mathlib.Core.List.{List, [], ◌∷◌, ◌++◌, append_assoc, append-nil}
use native.Mathlib.Nat.{mul-suc, sub-zero, suc-add, zero-add}
use native.Mathlib.Numerals.{add-one}
use native.Mathlib.Omega.{arith}
use borrow.Author.Tests.{leb-true, le-leb}
use lib.Dec.{leb}
use lib.ListN.{length, take, drop, get_or, set, length-append, length-set, get_or-append}
use lib.Seq.{paste, take-suc, split_at, take-append_seam, drop-append_seam, get_or-append-add, length-take-le}
use lib.Seq.{take-set-le, drop-set-lt, get_or-set_same, set-append_left}
use Rattle.lists.proofs.Tests.{both}
use Rattle.packing.specs.Padding.{zeros, pad, all_zero}
use Rattle.lists.specs.Each.{every}
use Rattle.packing.specs.Tables.{Form, rows, packed, things, fine, packs}
use Rattle.packing.proofs.PaddingLaws.{length-pad, pad_rest, pad-split, pad-fits, pad-put, pad_unput}
use Rattle.packing.proofs.TableLaws.{Laws, every_append, every_front, every_set, rows_append, packed-append, packed-set}
use Rattle.packing.proofs.TableLaws.{length-rows, rows-fine, rows-things, fine-laid}

-- n, k, l and p are the layout of xs, each as `ok` asks
pub record Packs {X : Type 0} (F : Form X) (ok : X → Bool) (n k : ℕ) (l p : List ℕ) (xs : List X) : Type 0 where
  pub count : n ≡ length xs
  pub total : k ≡ length (packed F xs)
  pub lined : l ≡ pad (length l) (rows F 0 xs)
  pub pooled : p ≡ pad (length p) (packed F xs)
  pub all : every ok xs ≡ true
  pub rowroom : F.width * n ≤ length l
  pub byteroom : k ≤ length p

module _ {X : Type 0} {ok : X → Bool} {F : Form X} (W : Laws F ok) where
  -- what passes the test is a packing of the things that it gives
  pub packs_is : {n k : ℕ} {l p : List ℕ} → packs F ok n k l p ≡ true → Packs F ok n k l p (things F n l p)
  unfolding packs
  packs_is {n} {k} {l} {p} e =
      let a = both (leb k (length p)) _ e in
      let b = both (all_zero (drop k p)) _ a.1 in
      let w : k ≤ length p = leb-true k (length p) a.0 in
      let i = fine-laid W k n 0 l p b.1 (omega arith) in
      let xs : List X = things F n l p in
      let t : packed F xs ≡ take k p = i.pooled ∙ ap (λ (m : ℕ). take m p) (sub-zero k) in
      record {
        count = sym i.count;
        total = omega (arith, i.ends);
        lined = i.lined;
        pooled = pad-split p k w b.0 ∙ ap (pad (length p)) (sym t);
        all = i.all;
        rowroom = rw (← i.count) (rw (← length-rows W 0 xs) (pad-fits l (rows F 0 xs) i.lined));
        byteroom = w;
      }

  module _ (a b : ℕ) (xs : List X) {n : ℕ} {l p : List ℕ} (c : n ≡ length xs)
      (e : l ≡ pad a (rows F 0 xs)) (f : p ≡ pad b (packed F xs)) (w : every ok xs ≡ true) where
    padded_fine : {k : ℕ} → k ≡ length (packed F xs) → fine F ok k n 0 l p ≡ true
    unfolding pad
    padded_fine {k} t = rw (c, e, f) (rows-fine W k 0 xs (a - length (rows F 0 xs)) (zeros (b - length (packed F xs))) w (omega arith))

    padded_things : things F n l p ≡ xs
    unfolding pad
    padded_things = rw (c, e, f) (rows-things W 0 xs (zeros (a - length (rows F 0 xs))) (zeros (b - length (packed F xs))) w)

  -- a padded layout with room is a packing
  module _ {n k : ℕ} (a b : ℕ) {l p : List ℕ} {xs : List X} (c : n ≡ length xs) (t : k ≡ length (packed F xs)) (w : every ok xs ≡ true) where
    pub packs-from : l ≡ pad a (rows F 0 xs) → p ≡ pad b (packed F xs) → F.width * n ≤ a → k ≤ b → Packs F ok n k l p xs
    packs-from e f h j =
        let r : length (rows F 0 xs) ≡ F.width * n = length-rows W 0 xs ∙ ap (λ (i : ℕ). F.width * i) (sym c) in
        let la : length l ≡ a = ap length e ∙ length-pad a (rows F 0 xs) (omega arith) in
        let lb : length p ≡ b = ap length f ∙ length-pad b (packed F xs) (omega arith) in
        record {
          count = c;
          total = t;
          lined = e ∙ ap (λ (m : ℕ). pad m (rows F 0 xs)) (sym la);
          pooled = f ∙ ap (λ (m : ℕ). pad m (packed F xs)) (sym lb);
          all = w;
          rowroom = omega arith;
          byteroom = omega arith;
        }

  -- the layout of things, in rooms that hold them, is a packing of them
  pub packs-rooms : (a b : ℕ) {xs : List X} → F.width * length xs ≤ a → length (packed F xs) ≤ b → every ok xs ≡ true
      → Packs F ok (length xs) (length (packed F xs)) (pad a (rows F 0 xs)) (pad b (packed F xs)) xs
  packs-rooms a b h j w = packs-from a b refl refl w refl refl h j

-- ---- its rows and bytes, and those of one thing more, whatever is asked of the things
module _ {X : Type 0} {ok : X → Bool} {F : Form X} {n k : ℕ} {l p : List ℕ} {xs : List X} (t : Packs F ok n k l p xs) (x : X) where
  -- the bytes of a thing more, pasted behind the bytes, are laid out with them
  pub bytes-laid : {p' : List ℕ} → k + length (F.bytes x) ≤ length p → p' ≡ paste p k (F.bytes x) (length (F.bytes x))
      → p' ≡ pad (length p) (packed F (xs ++ x ∷ []))
  unfolding packed
  bytes-laid h e =
      e ∙ pad-put (length p) (packed F xs) (F.bytes x) t.pooled t.total refl h
      ∙ ap (pad (length p)) (sym (packed-append F xs (x ∷ []) ∙ rw append-nil))

  pub bytes_more : k + length (F.bytes x) ≡ length (packed F (xs ++ x ∷ []))
  unfolding packed
  bytes_more = rw (packed-append F xs (x ∷ []), append-nil, length-append, t.total)

module _ {X : Type 0} {ok ok' : X → Bool} {F : Form X} (W : Laws F ok) {n k : ℕ} {l p : List ℕ} {xs : List X} (t : Packs F ok' n k l p xs) where
  -- its rows are as long as their number says
  pub rows_are : F.width * n ≡ length (rows F 0 xs)
  rows_are = ap (λ (i : ℕ). F.width * i) t.count ∙ sym (length-rows W 0 xs)

  -- the row of a thing more, pasted behind the rows, is laid out with them
  pub row_laid : (x : X) {l' : List ℕ} → F.width * n + F.width ≤ length l → l' ≡ paste l (F.width * n) (F.row k x) F.width
      → l' ≡ pad (length l) (rows F 0 (xs ++ x ∷ []))
  unfolding rows
  row_laid x h e =
      let z : 0 + length (packed F xs) ≡ k = omega (arith, t.total) in
      e ∙ pad-put (length l) (rows F 0 xs) (F.row k x) t.lined rows_are (sym (W.long k x)) h
      ∙ ap (pad (length l)) (sym (rows_append F 0 xs (x ∷ []) ∙ rw (z, append-nil)))

module _ {X : Type 0} {ok : X → Bool} {F : Form X} (W : Laws F ok) {n k : ℕ} {l p : List ℕ} {xs : List X} (t : Packs F ok n k l p xs) where
  -- a packing passes the test, and gives its things again
  pub is_packs : (packs F ok n k l p ≡ true) × (things F n l p ≡ xs)
  unfolding packs
  is_packs =
      let z : all_zero (drop k p) ≡ true
      = ap (λ (q : List ℕ). all_zero (drop k q)) t.pooled
      ∙ ap (λ (m : ℕ). all_zero (drop m (pad (length p) (packed F xs)))) t.total
      ∙ pad_rest (length p) (packed F xs) in
      let f = padded_fine W (length l) (length p) xs t.count t.lined t.pooled t.all t.total in (
        rw (le-leb k (length p) t.byteroom, z) f,
        padded_things W (length l) (length p) xs t.count t.lined t.pooled t.all,
      )

  -- one thing more: its row is pasted behind the rows, and its bytes behind the bytes
  pub put_thing : (x : X) {l' p' : List ℕ} → ok x ≡ true → F.width * n + F.width ≤ length l → k + length (F.bytes x) ≤ length p
      → l' ≡ paste l (F.width * n) (F.row k x) F.width → p' ≡ paste p k (F.bytes x) (length (F.bytes x))
      → Packs F ok (n + 1) (k + length (F.bytes x)) l' p' (xs ++ (x ∷ []))
  unfolding every
  put_thing x o h j e f =
      let u : every ok (x ∷ []) ≡ true = rw o in
      let m : F.width * (n + 1) ≡ F.width * n + F.width = rw (add-one, mul-suc) in
      packs-from W (length l) (length p) (omega (arith, t.count, length-append xs (x ∷ []))) (bytes_more t x) (every_append ok xs (x ∷ []) t.all u)
      (row_laid W t x h e) (bytes-laid t x j f) (omega arith) j

  -- the last thing taken away: zeros are pasted over its row and its bytes
  pub unput_thing : (x : X) {m j : ℕ} {ys : List X} {l' p' : List ℕ} → xs ≡ ys ++ (x ∷ []) → m ≡ length ys → j ≡ length (packed F ys)
      → l' ≡ paste l (F.width * m) (zeros F.width) F.width → p' ≡ paste p j (zeros (length (F.bytes x))) (length (F.bytes x))
      → Packs F ok m j l' p' ys
  unfolding rows packed
  unput_thing x {m} {j} {ys} s c u e f =
      let nm : n ≡ m + 1 = omega (arith, t.count, ap length s, length-append ys (x ∷ [])) in
      let wide : F.width * n ≡ F.width * m + F.width = ap (λ (i : ℕ). F.width * i) nm ∙ rw (add-one, mul-suc) in
      let r = F.row (0 + length (packed F ys)) x in
      let pk : packed F xs ≡ packed F ys ++ F.bytes x = ap (packed F) s ∙ packed-append F ys (x ∷ []) ∙ rw append-nil in
      let rk : rows F 0 xs ≡ rows F 0 ys ++ r = ap (rows F 0) s ∙ rows_append F 0 ys (x ∷ []) ∙ rw append-nil in
      let rm : F.width * m ≡ length (rows F 0 ys) = ap (λ (i : ℕ). F.width * i) c ∙ sym (length-rows W 0 ys) in
      let kj : k ≡ j + length (F.bytes x) = omega (arith, t.total, ap length pk, length-append (packed F ys) (F.bytes x)) in
      let el = e ∙ pad_unput (length l) (rows F 0 ys) r (t.lined ∙ ap (pad (length l)) rk) rm (sym (W.long (0 + length (packed F ys)) x))
      (omega (arith, t.rowroom)) in
      let ep = f ∙ pad_unput (length p) (packed F ys) (F.bytes x) (t.pooled ∙ ap (pad (length p)) pk) u refl (omega (arith, t.byteroom)) in
      packs-from W (length l) (length p) c u (every_front ok ys (x ∷ []) (ap (every ok) (sym s) ∙ t.all)) el ep
      (omega (arith, t.rowroom)) (omega (arith, t.byteroom))

-- ---- one of the things, at i
set-append-add : (xs ys : List ℕ) (n v : ℕ) → set (xs ++ ys) (length xs + n) v ≡ xs ++ set ys n v
set-append-add [] ys n v = ap (λ (k : ℕ). set ys k v) (zero-add n)
set-append-add (x ∷ xs) ys n v = rw suc-add (ap (λ (l : List ℕ). x ∷ l) (set-append-add xs ys n v))

middle : (a b c z : List ℕ) {q : List ℕ} → q ≡ (a ++ (b ++ c)) ++ z → take (length b) (drop (length a) q) ≡ b
middle a b c z e = rw (e, append_assoc, drop-append_seam, append_assoc, take-append_seam)

module _ {X : Type 0} {ok : X → Bool} {F : Form X} (W : Laws F ok) (xs : List X) (i : ℕ) (d : X) (h : i < length xs) where
  rows_before : length (rows F 0 (take i xs)) ≡ F.width * i
  rows_before = length-rows W 0 (take i xs) ∙ ap (λ (m : ℕ). F.width * m) (length-take-le i xs (omega arith))

  rows_split : (n : ℕ) → pad n (rows F 0 xs) ≡ rows F 0 (take i xs) ++ (F.row (length (packed F (take i xs))) (get_or xs i d)
      ++ (rows F (length (packed F (take i xs)) + length (F.bytes (get_or xs i d))) (drop (suc i) xs) ++ zeros (n - F.width * length xs)))
  unfolding pad rows
  rows_split n =
      let e : rows F 0 xs ≡ rows F 0 (take i xs) ++ rows F (length (packed F (take i xs))) (get_or xs i d ∷ drop (suc i) xs)
      = ap (rows F 0) (split_at xs i d h) ∙ rows_append F 0 (take i xs) (get_or xs i d ∷ drop (suc i) xs)
      ∙ ap (λ (o : ℕ). rows F 0 (take i xs) ++ rows F o (get_or xs i d ∷ drop (suc i) xs)) (zero-add (length (packed F (take i xs)))) in
      rw (length-rows W 0 xs) (ap (λ (l : List ℕ). l ++ zeros (n - F.width * length xs)) e ∙ simp append_assoc)

module _ {X : Type 0} (F : Form X) (xs : List X) (i : ℕ) (d : X) (h : i < length xs) where
  packed-split : packed F xs ≡ packed F (take i xs) ++ (F.bytes (get_or xs i d) ++ packed F (drop (suc i) xs))
  unfolding packed
  packed-split = ap (packed F) (split_at xs i d h) ∙ packed-append F (take i xs) (get_or xs i d ∷ drop (suc i) xs)

  -- where the bytes of thing i end, those of the next one start
  pub packed_next : length (packed F (take (i + 1) xs)) ≡ length (packed F (take i xs)) + length (F.bytes (get_or xs i d))
  unfolding packed
  packed_next = rw (add-one, take-suc xs i d h, packed-append, length-append, append-nil)

module _ {X : Type 0} {ok : X → Bool} {F : Form X} {n k : ℕ} {l p : List ℕ} {xs : List X} (t : Packs F ok n k l p xs) (i : ℕ) (d : X) (h : i < length xs) where
  -- the bytes of thing i lie within the k bytes
  pub bytes-within : length (packed F (take i xs)) + length (F.bytes (get_or xs i d)) ≤ k
  bytes-within =
      let a = packed F (take i xs) in
      let b = F.bytes (get_or xs i d) in
      let r = packed F (drop (suc i) xs) in
      omega (arith, t.total, ap length (packed-split F xs i d h), length-append a (b ++ r), length-append b r)

  -- and within their buffer
  pub bytes-room : length (packed F (take i xs)) + length (F.bytes (get_or xs i d)) ≤ length p
  bytes-room = omega (arith, t.byteroom, bytes-within)

  -- and stand there
  pub bytes_at : take (length (F.bytes (get_or xs i d))) (drop (length (packed F (take i xs))) p) ≡ F.bytes (get_or xs i d)
  unfolding pad
  bytes_at =
      middle (packed F (take i xs)) (F.bytes (get_or xs i d)) (packed F (drop (suc i) xs)) (zeros (length p - length (packed F xs)))
      (t.pooled ∙ ap (λ (q : List ℕ). q ++ zeros (length p - length (packed F xs))) (packed-split F xs i d h))

module _ {X : Type 0} {ok : X → Bool} {F : Form X} (W : Laws F ok) {n k : ℕ} {l p : List ℕ} {xs : List X} (t : Packs F ok n k l p xs) (i : ℕ) (d : X)
    (h : i < length xs) where
  -- number j of row i is that number of the row of thing i, told that its bytes start where those before it end
  pub row_cell : (j : ℕ) → j < F.width → get_or l (F.width * i + j) 0 ≡ get_or (F.row (length (packed F (take i xs))) (get_or xs i d)) j 0
  row_cell j w =
      let o = length (packed F (take i xs)) in
      let r = F.row o (get_or xs i d) in
      let a : j < length r = omega (arith, W.long o (get_or xs i d)) in
      ap (λ (m : List ℕ). get_or m (F.width * i + j) 0) (t.lined ∙ rows_split W xs i d h (length l))
      ∙ rw (← rows_before W xs i d h, get_or-append-add) (get_or-append r _ 0 j a)

  -- a store into row i that makes it the row of another thing with the same bytes puts that thing at i
  pub set_thing : (j v : ℕ) (y : X) {l' : List ℕ} → j < F.width → ok y ≡ true → F.bytes y ≡ F.bytes (get_or xs i d)
      → ((o : ℕ) → set (F.row o (get_or xs i d)) j v ≡ F.row o y)
      → l' ≡ set l (F.width * i + j) v → Packs F ok n k l' p (set xs i y)
  set_thing j v y w good same e f =
      let o = length (packed F (take i xs)) in
      let r = F.row o (get_or xs i d) in
      let a : j < length r = omega (arith, W.long o (get_or xs i d)) in
      let h' : i < length (set xs i y) = omega (arith, length-set xs i y) in
      let g : set (pad (length l) (rows F 0 xs)) (F.width * i + j) v ≡ pad (length l) (rows F 0 (set xs i y))
      = rw (
        rows_split W xs i d h (length l),
        rows_split W (set xs i y) i d h' (length l),
        take-set-le i xs i y (omega arith),
        get_or-set_same xs i y d h,
        drop-set-lt (suc i) xs i y (omega arith),
        length-set xs i y,
        same,
      )
      (rw (← rows_before W xs i d h, set-append-add) (ap (λ (m : List ℕ). rows F 0 (take i xs) ++ m) (set-append_left r _ j v a ∙ rw e))) in
      let q = packed-set F xs i y d same in
      packs-from W (length l) (length p) (t.count ∙ sym (length-set xs i y)) (t.total ∙ ap length (sym q)) (every_set ok xs i y t.all good)
      (f ∙ ap (λ (m : List ℕ). set m (F.width * i + j) v) t.lined ∙ g) (t.pooled ∙ ap (pad (length p)) (sym q)) t.rowroom t.byteroom
