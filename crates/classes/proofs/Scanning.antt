-- A token's class, test by test: its quotes, the lone `*`, and the scan from a place of the token on. Assumes nothing.
use Prim.Native.Nat.{ℕ, ◌+◌, ◌-◌, ◌<◌, ◌≤◌}
use mathlib.Core.Path.{◌≡◌, refl, sym, ◌∙◌}
use mathlib.Core.List.{List, [], ◌∷◌}
use mathlib.Core.Logic.{◌⊎◌, inl, inr}
use mathlib.Core.Bool.{Bool, true, false, cond, ◌&&◌, ◌||◌, true≢false}
use native.Mathlib.Nat.{add_assoc}
use native.Mathlib.Numerals.{add-one}
use native.Mathlib.Omega.{arith}
use borrow.Author.Tests.{eq-eqb, ne_eqb, le-leb, lt-leb, leb-true}
use lib.Dec.{eqb, leb}
use lib.ListN.{length, get_or, drop, drop_of_length-le}
use lib.Seq.{drop-cons, drop-drop}
use Rattle.lists.proofs.Tests.{neither}
use Rattle.classes.specs.declared.Class.{Class}
use Rattle.classes.specs.declared.Class.TheVariants.{Exact, NonStar, Star, All}
use Rattle.classes.specs.Classes.{class_of, escaped, lone_star, nonstar, quoted, scan, scanned, sign}

-- ---- the quotes
module _ (t : List ℕ) where
  pub quoted-short : length t < 2 → false ≡ quoted t
  unfolding quoted
  quoted-short h = simp (lt-leb 2 (length t) h)

  module _ (h : 2 ≤ length t) where
    pub quoted-opens : (get_or t 0 0 ≡ 34 → ⊥) → false ≡ quoted t
    unfolding quoted
    quoted-opens n = simp (le-leb 2 (length t) h, ne_eqb (get_or t 0 0) 34 n)

    pub quoted-closes : get_or t 0 0 ≡ 34 → eqb (get_or t (length t - 1) 0) 34 ≡ quoted t
    unfolding quoted
    quoted-closes e = simp (le-leb 2 (length t) h, eq-eqb (get_or t 0 0) 34 e)

-- b is what `is_quoted` answers of t
module _ (t : List ℕ) (b : Bool) (e : b ≡ quoted t) where
  quoted-long : b ≡ true → 2 ≤ length t
  unfolding quoted
  quoted-long h = long (leb 2 (length t)) _ refl (sym e ∙ h)
    where
      long : (x y : Bool) → leb 2 (length t) ≡ x → x && y ≡ true → 2 ≤ length t
      long true y q r = leb-true 2 (length t) q
      long false y q r = absurd (true≢false (sym r))

  pub quoted_some : b ≡ true → 1 ≤ length t
  quoted_some h = omega (arith, quoted-long h)

  pub quoted_inner : b ≡ true → 1 ≤ length t - 1
  quoted_inner h = omega (arith, quoted-long h)

  pub class-quoted : b ≡ true → Exact ≡ class_of t
  unfolding class_of
  class-quoted h = rw (← e, h)

  module _ (h : b ≡ false) (a : Bool) (d : a ≡ lone_star t) where
    pub class_all : a ≡ true → All ≡ class_of t
    unfolding class_of
    class_all g = rw (← e, h, ← d, g)

    pub class-scanned : a ≡ false → (k : Class) → k ≡ scan Exact false t → k ≡ class_of t
    unfolding class_of
    class-scanned g k q = rw (← e, h, ← d, g) q

-- ---- the lone star
pub lone_star-one : (t : List ℕ) → length t ≡ 1 → eqb (get_or t 0 0) 42 ≡ lone_star t
unfolding lone_star
lone_star-one [] h = absurd (omega arith)
lone_star-one (c ∷ []) h = refl
lone_star-one (c ∷ d ∷ s) h = absurd (omega arith)

pub lone_star_not : (t : List ℕ) → (length t ≡ 1 → ⊥) → false ≡ lone_star t
unfolding lone_star
lone_star_not [] n = refl
lone_star_not (c ∷ []) n = absurd (n refl)
lone_star_not (c ∷ d ∷ s) n = refl

-- ---- a byte of the scan
module _ (k : Class) (c : ℕ) where
  pub scanned-escape : (r : Class) → r ≡ escaped k → c ≡ 92 → r ≡ scanned k c
  unfolding scanned
  scanned-escape r e h = rw (eq-eqb c 92 h) e

  module _ (n : c ≡ 92 → ⊥) where
    pub scanned-nonstar : nonstar c ≡ true → NonStar ≡ scanned k c
    unfolding scanned
    scanned-nonstar h = rw (ne_eqb c 92 n, h)

    pub scanned_same : (c ≡ 63 → ⊥) → (c ≡ 91 → ⊥) → (c ≡ 93 → ⊥) → k ≡ scanned k c
    unfolding scanned nonstar
    scanned_same a b d = rw (ne_eqb c 92 n, ne_eqb c 63 a, ne_eqb c 91 b, ne_eqb c 93 d)

pub is_nonstar : (c : ℕ) → (c ≡ 63) ⊎ ((c ≡ 91) ⊎ (c ≡ 93)) → (k : Class) → NonStar ≡ scanned k c
unfolding scanned nonstar
is_nonstar c (inl e) k = rw e refl
is_nonstar c (inr (inl e)) k = rw e refl
is_nonstar c (inr (inr e)) k = rw e refl

scan-skip : (k : Class) (s : List ℕ) → scan k true s ≡ scan k false (drop 1 s)
unfolding scan
scan-skip k [] = refl
scan-skip k (c ∷ s) = refl

-- ---- the scan from a place on: what is left decides
module _ (s : List ℕ) (k : Class) (i : ℕ) (left : scan Exact false s ≡ scan k false (drop i s)) where
  pub scan_end : length s ≤ i → k ≡ scan Exact false s
  unfolding scan
  scan_end h = sym (left ∙ rw (drop_of_length-le s h))

  module _ (h : i < length s) where
    here : scan Exact false s ≡ cond (eqb (get_or s i 0) 42) Star (scan (scanned k (get_or s i 0)) (eqb (get_or s i 0) 92) (drop (i + 1) s))
    unfolding scan
    here = left ∙ rw (add-one i, drop-cons s i 0 h)

    -- behind `]` there is no sign
    pub scan-plain : 93 < get_or s i 0 → scan Exact false s ≡ scan k false (drop (i + 1) s)
    unfolding scanned nonstar
    scan-plain q =
        let no : (n : ℕ) → n ≤ 93 → eqb (get_or s i 0) n ≡ false = λ n h. ne_eqb (get_or s i 0) n (λ e. omega arith) in
        here ∙ rw (no 42 (omega arith), no 92 (omega arith), no 91 (omega arith), no 93 (omega arith), no 63 (omega arith))

    pub scan-star : get_or s i 0 ≡ 42 → Star ≡ scan Exact false s
    scan-star e = sym (here ∙ rw (eq-eqb (get_or s i 0) 42 e))

    module _ (r : Class) (e : r ≡ scanned k (get_or s i 0)) where
      pub scan-escape : get_or s i 0 ≡ 92 → scan Exact false s ≡ scan r false (drop (i + 2) s)
      scan-escape q = here ∙ rw (ne_eqb (get_or s i 0) 42 (λ z. omega arith), eq-eqb (get_or s i 0) 92 q, ← e, scan-skip, drop-drop, add_assoc)

      pub scan_on : (get_or s i 0 ≡ 42 → ⊥) → (get_or s i 0 ≡ 92 → ⊥) → scan Exact false s ≡ scan r false (drop (i + 1) s)
      scan_on n q = here ∙ rw (ne_eqb (get_or s i 0) 42 n, ne_eqb (get_or s i 0) 92 q, ← e)

-- ---- blocks without a sign
scan_none : (s : List ℕ) (i : ℕ) → i < length s → sign (get_or s i 0) ≡ false → scan Exact false (drop i s) ≡ scan Exact false (drop (i + 1) s)
unfolding sign scan scanned
scan_none s i h q =
    let x = get_or s i 0 in
    let a = neither (eqb x 42) (eqb x 92 || nonstar x) q in
    let b = neither (eqb x 92) (nonstar x) a.1 in
    rw (add-one i, drop-cons s i 0 h, a.0, b.0, b.1)

-- what is known before byte i of the block at a place
pub record Block (s : List ℕ) (at : ℕ) (found : Bool) (i : ℕ) : Type 0 where
  pub within : i ≤ 16
  pub left : found ≡ false → scan Exact false (drop at s) ≡ scan Exact false (drop (at + i) s)

pub block_start : {s : List ℕ} {at : ℕ} → Block s at false 0
block_start {at = at} =
    let e : at + 0 ≡ at = omega arith in
    record { within = omega arith; left = λ z. rw e }

module _ {s : List ℕ} {at : ℕ} {found : Bool} {i : ℕ} (known : Block s at found i) where
  pub block_on : at + 16 ≤ length s → i < 16 → (m : Bool) → m ≡ sign (get_or s (at + i) 0) → Block s at (found || m) (i + 1)
  block_on room h m e = record {
    within = omega arith;
    left = λ z.
        let q = neither found m z in
        known.left q.0 ∙ scan_none s (at + i) (omega arith) (sym e ∙ q.1) ∙ rw (add_assoc at i 1);
  }

  pub block_end : 16 ≤ i → found ≡ false → scan Exact false (drop at s) ≡ scan Exact false (drop (at + 16) s)
  block_end h z =
      let e : i ≡ 16 = omega (arith, known.within) in
      known.left z ∙ rw e

-- what is known before the block at i
pub record Blocks (s : List ℕ) (i : ℕ) : Type 0 where
  pub within : i ≤ length s
  pub left : scan Exact false s ≡ scan Exact false (drop i s)

module _ {s : List ℕ} {i : ℕ} (known : Blocks s i) where
  pub blocks_on : 16 ≤ length s - i → (m : Bool) → (m ≡ false → scan Exact false (drop i s) ≡ scan Exact false (drop (i + 16) s)) → m ≡ false → Blocks s (i + 16)
  blocks_on room m e z = record { within = omega (arith, known.within); left = known.left ∙ e z }

  pub blocks_end : scan Exact false s ≡ scan Exact false (drop i s)
  blocks_end = known.left
