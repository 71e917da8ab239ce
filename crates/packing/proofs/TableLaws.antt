-- Laws of rows and packed bytes (specs/Tables.antt), for every form that writes what it reads and reads what it writes: what is laid out is fine and
-- gives the things again, and what is fine is laid out. Assumes nothing.
use Prim.Native.Nat.{ℕ, zero, suc, ◌+◌, ◌-◌, ◌*◌, ◌≤◌, ◌<◌}
use mathlib.Core.Path.{◌≡◌, refl, sym, ap, ◌∙◌}
use mathlib.Core.Bool.{Bool, true}
use mathlib.Core.List.{List, [], ◌∷◌, ◌++◌, append_assoc}
use native.Mathlib.Nat.{mul-suc, add_assoc}
use native.Mathlib.Omega.{arith}
use borrow.Author.Tests.{eqb-true, leb-true, le-leb, eq-eqb}
use lib.Dec.{eqb, leb}
use lib.ListN.{length, take, drop, get_or, set, length-append, length-drop}
use lib.Seq.{take-append_seam, drop-append_seam, drop_at, length-take-le, take-add}
use Rattle.lists.proofs.Tests.{both}
use Rattle.packing.specs.Padding.{zeros, pad, all_zero}
use Rattle.lists.specs.Each.{every}
use Rattle.packing.specs.Tables.{Form, rows, packed, things, fine}
use Rattle.packing.proofs.PaddingLaws.{pad-nil, pad-front, all_zero_is, all_zero-zeros}

-- what makes a form one: a row has its width, what is written is read again, and what is read is what is written
pub record Laws {X : Type 0} (F : Form X) (ok : X → Bool) : Type 0 where
  pub long : (o : ℕ) (x : X) → length (F.row o x) ≡ F.width
  pub row_starts : (o : ℕ) (x : X) (t : List ℕ) → F.starts o (F.row o x ++ t) ≡ true
  pub row_size : (o : ℕ) (x : X) (t : List ℕ) → F.size (F.row o x ++ t) ≡ length (F.bytes x)
  pub row_back : (o : ℕ) (x : X) (t : List ℕ) → ok x ≡ true → F.back (F.row o x ++ t) (F.bytes x) ≡ x
  pub back_row : (o : ℕ) (l bs : List ℕ) → F.width ≤ length l → F.starts o l ≡ true → length bs ≡ F.size l → F.row o (F.back l bs) ++ drop F.width l ≡ l
  pub back_bytes : (l bs : List ℕ) → length bs ≡ F.size l → F.bytes (F.back l bs) ≡ bs

-- ---- a test of each
module _ {X : Type 0} (ok : X → Bool) where
  -- where each of two lists is as asked, each of both together is
  pub every_append : (xs ys : List X) → every ok xs ≡ true → every ok ys ≡ true → every ok (xs ++ ys) ≡ true
  unfolding every
  every_append [] ys a b = b
  every_append (x ∷ xs) ys a b =
      let h = both (ok x) (every ok xs) a in
      rw h.0 (every_append xs ys h.1 b)

  -- and where each of both together is, each of the first is
  pub every_front : (xs ys : List X) → every ok (xs ++ ys) ≡ true → every ok xs ≡ true
  unfolding every
  every_front [] ys a = refl
  every_front (x ∷ xs) ys a =
      let h = both (ok x) (every ok (xs ++ ys)) a in
      rw h.0 (every_front xs ys h.1)

  -- and each of the second
  pub every_rest : (xs ys : List X) → every ok (xs ++ ys) ≡ true → every ok ys ≡ true
  unfolding every
  every_rest [] ys a = a
  every_rest (x ∷ xs) ys a = every_rest xs ys (both (ok x) (every ok (xs ++ ys)) a).1

  -- where each is as asked, the one at i is
  pub every_at : (xs : List X) (i : ℕ) (d : X) → every ok xs ≡ true → i < length xs → ok (get_or xs i d) ≡ true
  unfolding every
  every_at [] i d a h = absurd (omega arith)
  every_at (x ∷ xs) zero d a h = (both (ok x) (every ok xs) a).0
  every_at (x ∷ xs) (suc i) d a h = every_at xs i d (both (ok x) (every ok xs) a).1 (omega arith)

  -- and where the one at each place is, each is
  pub every-from : (xs : List X) (d : X) → ((i : ℕ) → i < length xs → ok (get_or xs i d) ≡ true) → every ok xs ≡ true
  unfolding every
  every-from [] d f = refl
  every-from (x ∷ xs) d f = rw (f 0 (omega arith)) (every-from xs d (λ i h. f (suc i) (omega arith)))

  -- one that is as asked, in the place of another, leaves it so
  pub every_set : (xs : List X) (i : ℕ) (y : X) → every ok xs ≡ true → ok y ≡ true → every ok (set xs i y) ≡ true
  unfolding every
  every_set [] i y a o = refl
  every_set (x ∷ xs) zero y a o = rw o (both (ok x) (every ok xs) a).1
  every_set (x ∷ xs) (suc i) y a o =
      let h = both (ok x) (every ok xs) a in
      rw h.0 (every_set xs i y h.1 o)

-- ---- rows and bytes of two lists
module _ {X : Type 0} (F : Form X) where
  -- the rows of two lists together are those of each, the second's from where the bytes of the first end
  pub rows_append : (o : ℕ) (xs ys : List X) → rows F o (xs ++ ys) ≡ rows F o xs ++ rows F (o + length (packed F xs)) ys
  unfolding rows packed
  rows_append o [] ys = ap (λ (k : ℕ). rows F k ys) (omega arith)
  rows_append o (x ∷ xs) ys =
      simp (rows_append (o + length (F.bytes x)) xs ys, append_assoc, length-append)
      (ap (λ (k : ℕ). F.row o x ++ (rows F (o + length (F.bytes x)) xs ++ rows F k ys)) (omega arith))

  -- and so are the bytes
  pub packed-append : (xs ys : List X) → packed F (xs ++ ys) ≡ packed F xs ++ packed F ys
  unfolding packed
  packed-append [] ys = refl
  packed-append (x ∷ xs) ys = simp (packed-append xs ys, append_assoc)

  -- a thing with the same bytes in the place of another leaves the bytes as they are
  pub packed-set : (xs : List X) (i : ℕ) (y d : X) → F.bytes y ≡ F.bytes (get_or xs i d) → packed F (set xs i y) ≡ packed F xs
  unfolding packed
  packed-set [] i y d e = refl
  packed-set (x ∷ xs) zero y d e = rw e
  packed-set (x ∷ xs) (suc i) y d e = ap (λ (l : List ℕ). F.bytes x ++ l) (packed-set xs i y d e)

module _ {X : Type 0} {ok : X → Bool} {F : Form X} (W : Laws F ok) where
  -- the rows of a list are as long as its length and the width say
  pub length-rows : (o : ℕ) (xs : List X) → length (rows F o xs) ≡ F.width * length xs
  unfolding rows
  length-rows o [] = omega arith
  length-rows o (x ∷ xs) = simp (length-append, W.long, length-rows (o + length (F.bytes x)) xs, mul-suc) (omega arith)

  -- what is laid out is fine
  pub rows-fine : (p o : ℕ) (xs : List X) (k : ℕ) (u : List ℕ) → every ok xs ≡ true → o + length (packed F xs) ≡ p
      → fine F ok p (length xs) o (rows F o xs ++ zeros k) (packed F xs ++ u) ≡ true
  unfolding rows packed fine every
  rows-fine p o [] k u w e = simp (eq-eqb o p (omega arith), all_zero-zeros)
  rows-fine p o (x ∷ xs) k u w e =
      let b = both (ok x) (every ok xs) w in
      let o' : ℕ = o + length (F.bytes x) in
      let t : List ℕ = rows F o' xs ++ zeros k in
      let e' : o + length (F.bytes x) + length (packed F xs) ≡ p = omega (arith, length-append (F.bytes x) (packed F xs)) in
      let h : F.width ≤ length (F.row o x ++ t) = omega (arith, length-append (F.row o x) t, W.long o x) in
      simp (
        append_assoc,
        le-leb _ _ h,
        W.row_starts o x t,
        W.row_size o x t,
        le-leb (o + length (F.bytes x)) p (omega arith),
        take-append_seam,
        drop-append_seam,
        W.row_back o x t b.0,
        b.0,
        drop_at (F.row o x) t F.width (W.long o x),
      )
      (rows-fine p o' xs k u b.1 e')

  -- and gives the things again
  pub rows-things : (o : ℕ) (xs : List X) (t u : List ℕ) → every ok xs ≡ true → things F (length xs) (rows F o xs ++ t) (packed F xs ++ u) ≡ xs
  unfolding rows packed things every
  rows-things o [] t u w = refl
  rows-things o (x ∷ xs) t u w =
      let b = both (ok x) (every ok xs) w in
      let o' : ℕ = o + length (F.bytes x) in
      let t' : List ℕ = rows F o' xs ++ t in
      simp (
        append_assoc,
        W.row_size o x t',
        take-append_seam,
        drop-append_seam,
        W.row_back o x t' b.0,
        drop_at (F.row o x) t' F.width (W.long o x),
        rows-things o' xs t u b.1,
      )

  -- n rows at the front of l, whose bytes go from o to p and stand at the front of ps, are the layout of the things that they give
  pub record Laid (p n o : ℕ) (l ps : List ℕ) : Type 0 where
    pub count : length (things F n l ps) ≡ n
    pub ends : o + length (packed F (things F n l ps)) ≡ p
    pub lined : l ≡ pad (length l) (rows F o (things F n l ps))
    pub pooled : packed F (things F n l ps) ≡ take (p - o) ps
    pub all : every ok (things F n l ps) ≡ true

  laid_more : {p n o : ℕ} {l ps : List ℕ} → F.width ≤ length l → F.starts o l ≡ true → o + F.size l ≤ p → p ≤ o + length ps
      → ok (F.back l (take (F.size l) ps)) ≡ true → Laid p n (o + F.size l) (drop F.width l) (drop (F.size l) ps) → Laid p (suc n) o l ps
  unfolding rows packed things every
  laid_more {p} {n} {o} {l} {ps} wide g within h good i =
      let k : ℕ = F.size l in
      let bs : List ℕ = take k ps in
      let xs : List X = things F n (drop F.width l) (drop k ps) in
      let sized : length bs ≡ k = length-take-le k ps (omega arith) in
      let same : F.bytes (F.back l bs) ≡ bs = W.back_bytes l bs sized in
      let total : length (packed F (F.back l bs ∷ xs)) ≡ k + length (packed F xs) = simp (length-append, same, sized) in
      let R : List ℕ = F.row o (F.back l bs) in
      let hl : length l ≡ length R + length (drop F.width l) = omega (arith, W.long o (F.back l bs), length-drop F.width l) in
      let hp : k + (p - (o + k)) ≡ p - o = omega arith in
      record {
        count = ap suc i.count;
        ends = simp (total, ← add_assoc) i.ends;
        lined =
            rw (same, sized, pad-front (length l) (length (drop F.width l)) R (rows F (o + k) xs) hl, ← i.lined) (sym (W.back_row o l bs wide g sized));
        pooled = rw (same, i.pooled, ← hp, take-add k (p - (o + k)) ps);
        all = rw good i.all;
      }

  -- what is fine is laid out
  pub fine-laid : (p n o : ℕ) (l ps : List ℕ) → fine F ok p n o l ps ≡ true → p ≤ o + length ps → Laid p n o l ps
  unfolding rows packed things fine every
  fine-laid p zero o l ps e h =
      let b = both (eqb o p) (all_zero l) e in
      let q : o ≡ p = eqb-true o p b.0 in
      let z : p - o ≡ 0 = omega arith in
      record {
        count = refl;
        ends = omega arith;
        lined = all_zero_is l b.1 ∙ pad-nil (length l);
        pooled = rw z;
        all = refl;
      }
  fine-laid p (suc n) o l ps e h =
      let b = both (leb F.width (length l)) _ e in
      let d = both (F.starts o l) _ b.1 in
      let f = both (leb (o + F.size l) p) _ d.1 in
      let g = both (ok (F.back l (take (F.size l) ps))) _ f.1 in
      let wide : F.width ≤ length l = leb-true _ _ b.0 in
      let within : o + F.size l ≤ p = leb-true _ _ f.0 in
      let h' : p ≤ o + F.size l + length (drop (F.size l) ps) = omega (arith, length-drop (F.size l) ps) in
      laid_more wide d.0 within h g.0 (fine-laid p n (o + F.size l) (drop F.width l) (drop (F.size l) ps) g.1 h')
