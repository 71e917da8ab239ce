-- A check of a packing, for every form: what is left to test from row i on decides, turn by turn; and the test `packs` from its parts. The premises are what
-- the code has learned. Assumes nothing.
use Prim.Native.Nat.{ℕ, suc, ◌+◌, ◌-◌, ◌*◌, ◌≤◌, ◌<◌}
use mathlib.Core.Path.{◌≡◌, sym, ◌∙◌}
use mathlib.Core.Bool.{Bool, true, false, ◌&&◌, and-false}
use mathlib.Core.List.{List}
use native.Mathlib.Nat.{mul-suc, sub-zero, mul-zero, mul-le-mul_left}
use native.Mathlib.Numerals.{add-one}
use native.Mathlib.Omega.{arith}
use borrow.Author.Tests.{le-leb, lt-leb, eq-eqb, ne_eqb}
use lib.Dec.{eqb, leb}
use lib.ListN.{length, take, drop, length-drop}
use lib.Seq.{drop-drop}
use Rattle.lists.proofs.Tests.{fails, first_fails, passes_on}
use Rattle.packing.specs.Padding.{all_zero}
use Rattle.packing.specs.Tables.{Form, things, fine, packs}
use Rattle.packing.proofs.TableLaws.{Laws}
use Rattle.packing.proofs.Packings.{Packs, packs_is}

-- ---- row i of the rows l, and what it tells where its bytes start at o
module _ {X : Type 0} (F : Form X) where
  abbrev pub from_row : ℕ → List ℕ → List ℕ
  from_row i l = drop (F.width * i) l

  abbrev pub starts_at : ℕ → ℕ → List ℕ → Bool
  starts_at i o l = F.starts o (from_row i l)

  abbrev pub size_at : ℕ → List ℕ → ℕ
  size_at i l = F.size (from_row i l)

  abbrev pub thing_at : ℕ → ℕ → List ℕ → List ℕ → X
  thing_at i o l ps = F.back (from_row i l) (take (size_at i l) (drop o ps))

  -- what is left to test from row i on, of n rows whose bytes end at p
  abbrev pub left : (X → Bool) → ℕ → ℕ → ℕ → ℕ → List ℕ → List ℕ → Bool
  left ok p n i o l ps = fine F ok p (n - i) o (from_row i l) (drop o ps)

module _ {X : Type 0} (F : Form X) (ok : X → Bool) (p n : ℕ) (l ps : List ℕ) where
  -- at the first row all is left
  pub left_all : fine F ok p n 0 l ps ≡ left F ok p n 0 0 l ps
  left_all = rw (sub-zero, mul-zero)

  module _ (i o : ℕ) (more : i < n) (room : F.width * n ≤ length l) where
    turn : left F ok p n i o l ps
        ≡ (starts_at F i o l && (leb (o + size_at F i l) p && (ok (thing_at F i o l ps) && left F ok p n (i + 1) (o + size_at F i l) l ps)))
    unfolding fine
    turn =
        let m : n - i ≡ suc (n - (i + 1)) = omega arith in
        let d : F.width * i + F.width ≡ F.width * (i + 1) = rw (add-one, mul-suc) in
        let u : F.width * (i + 1) ≤ F.width * n = mul-le-mul_left F.width (omega arith) in
        let w : F.width ≤ length (from_row F i l) = omega (arith, length-drop (F.width * i) l) in
        rw m (simp (le-leb F.width (length (from_row F i l)) w, drop-drop, d))

    -- a row that does not tell o as its start
    pub row_bad : starts_at F i o l ≡ false → left F ok p n i o l ps ≡ false
    row_bad f = first_fails _ turn f

    sized : starts_at F i o l ≡ true
        → left F ok p n i o l ps ≡ (leb (o + size_at F i l) p && (ok (thing_at F i o l ps) && left F ok p n (i + 1) (o + size_at F i l) l ps))
    sized s = passes_on turn s

    -- a row that tells bytes past p
    pub size_bad : p < o + size_at F i l → left F ok p n i o l ps ≡ false
    size_bad h = turn ∙ simp (lt-leb (o + size_at F i l) p h, and-false)

    asked : starts_at F i o l ≡ true → o + size_at F i l ≤ p
        → left F ok p n i o l ps ≡ (ok (thing_at F i o l ps) && left F ok p n (i + 1) (o + size_at F i l) l ps)
    asked s h = passes_on (sized s) (le-leb _ _ h)

    -- a thing that is not as asked
    pub thing_bad : ok (thing_at F i o l ps) ≡ false → left F ok p n i o l ps ≡ false
    thing_bad f = turn ∙ simp (f, and-false)

    -- a good row: the rows behind it decide
    pub row_more : starts_at F i o l ≡ true → o + size_at F i l ≤ p → ok (thing_at F i o l ps) ≡ true
        → left F ok p n i o l ps ≡ left F ok p n (i + 1) (o + size_at F i l) l ps
    row_more s h t = passes_on (asked s h) t

  module _ (i o : ℕ) (e : i ≡ n) where
    left_none : left F ok p n i o l ps ≡ (eqb o p && all_zero (drop (F.width * n) l))
    unfolding fine
    left_none = let z : n - i ≡ 0 = omega arith in rw (z, e)

    -- behind the last row: bytes that do not end at p
    pub end_bad : (o ≡ p → ⊥) → left F ok p n i o l ps ≡ false
    end_bad f = first_fails _ left_none (ne_eqb o p f)

    -- and where they do, the rest of the rows' buffer decides
    pub end_good : o ≡ p → left F ok p n i o l ps ≡ all_zero (drop (F.width * n) l)
    end_good f = passes_on left_none (eq-eqb o p f)

-- ---- the test `packs` from its parts
module _ {X : Type 0} {ok : X → Bool} {F : Form X} (W : Laws F ok) where
  -- where it cannot be a packing, the test fails: too little room for the rows or for the bytes
  pub packs_no : {n k : ℕ} {l p : List ℕ} → (Packs F ok n k l p (things F n l p) → ⊥) → false ≡ packs F ok n k l p
  packs_no h = sym (fails (λ t. h (packs_is W t)))

module _ {X : Type 0} (F : Form X) (ok : X → Bool) (n k : ℕ) (l p : List ℕ) where
  rest : k ≤ length p → packs F ok n k l p ≡ (all_zero (drop k p) && fine F ok k n 0 l p)
  unfolding packs
  rest h = simp (le-leb k (length p) h)

  -- the rest of the bytes' buffer is not zero
  pub packs-zero : {z : Bool} → z ≡ all_zero (drop k p) → z ≡ false → false ≡ packs F ok n k l p
  unfolding packs
  packs-zero e f = simp (sym e ∙ f, and-false)

  -- it is zero, and the rows decide
  pub packs-rows : {z r : Bool} → k ≤ length p → z ≡ all_zero (drop k p) → z ≡ true → r ≡ fine F ok k n 0 l p → r ≡ packs F ok n k l p
  packs-rows h e f q = q ∙ sym (passes_on (rest h) (sym e ∙ f))
