-- The stages of the walk are the ranks: of a book with n nodes there are 10 * n stages, and stage r looks at a line exactly when the line's rank is r.
-- Assumes nothing.
use Prim.Native.Nat.{ℕ, zero, suc, ◌+◌, ◌-◌, ◌*◌, ◌≤◌, ◌<◌}
use mathlib.Core.Path.{◌≡◌, refl, sym, ap, ◌∙◌}
use mathlib.Core.List.{List, ◌++◌}
use mathlib.Core.Bool.{Bool, true, false, ◌&&◌}
use mathlib.Core.Logic.{◌⊎◌, inl, inr, ⊎_elim}
use native.Mathlib.Nat.{mul-suc, mul-le-mul_left}
use native.Mathlib.Omega.{arith}
use lib.Dec.{eqb, leb}
use borrow.Author.Tests.{eqb-true, eq-eqb, leb-true, leb-false, le-leb, lt-leb}
use lib.ListN.{length, get_or, length-append, get_or-append}
use lib.Seq.{get_or-append-add}
use Rattle.numbers.specs.Classes.{all_class, nonstar_class, star_class}
use Rattle.numbers.specs.Limits.{node_limit}
use Rattle.lists.proofs.Tests.{both}
use Rattle.book.specs.Books.{Line}
use Rattle.book.proofs.Forms.{Ranged}
use Rattle.ranking.specs.Walk.{Stage, exact_of, glob_of, exact_stages, glob_stages, stages}
use Rattle.ranking.specs.Ranks.{rank}

-- what stands for a stage past the last: it looks at no line
abbrev pub no_stage : Stage
no_stage x = false

-- ---- tests and numbers
-- two tests of which each holds where the other does
agree : (a b : Bool) → (a ≡ true → b ≡ true) → (b ≡ true → a ≡ true) → a ≡ b
agree true b f g = sym (f refl)
agree false true f g = g refl
agree false false f g = refl

pub at_most_or_more : (a b : ℕ) → (a ≤ b) ⊎ (b < a)
at_most_or_more a b = by (leb a b) refl where
  by : (t : Bool) → leb a b ≡ t → (a ≤ b) ⊎ (b < a)
  by true e = inl (leb-true a b e)
  by false e = inr (leb-false a b e)

-- a number has one quotient and one rest
digits : (m c d u v : ℕ) → u < m → v < m → m * c + u ≡ m * d + v → (c ≡ d) × (u ≡ v)
digits m zero zero u v h k e = (refl, omega arith)
digits m zero (suc d) u v h k e = absurd (omega (arith, mul-suc m d))
digits m (suc c) zero u v h k e = absurd (omega (arith, mul-suc m c))
digits m (suc c) (suc d) u v h k e =
    let r = digits m c d u v h k (omega (arith, mul-suc m c, mul-suc m d)) in
    (ap suc r.0, r.1)

-- ---- the rank of an exact line and of a glob
module _ (n : ℕ) (x : Line) where
  pub rank_exact : x.class ≤ 1 → rank n x ≡ 4 * x.node + 2 * x.language + x.section
  unfolding rank
  rank_exact h = rw (le-leb x.class 1 h)

  pub rank-glob : 1 < x.class → rank n x ≡ 4 * n + 2 * n * (x.class - 2) + (2 * (n - 1 - x.node) + x.section)
  unfolding rank
  rank-glob h = rw (lt-leb x.class 1 h) (omega arith)

  pub rank_below : Ranged n x → rank n x < 10 * n
  rank_below r =
      ⊎_elim
      (λ h. omega (arith, rank_exact h))
      (λ h. let k : x.class - 2 ≤ 2 = omega arith in omega (arith, rank-glob h, mul-le-mul_left (2 * n) k))
      (at_most_or_more x.class 1)

-- how far the ranks of a class of globs reach, of any code and of as many nodes as there may be
pub span_fits : (n k : ℕ) → n ≤ node_limit → k ≤ 5 → 2 * n * k ≤ 10240
span_fits n k a b = omega (arith, mul-le-mul_left (2 * n) b)

-- ---- each stage, by the rank that it looks at
module _ (n : ℕ) (x : Line) (g : Ranged n x) (i s : ℕ) (h : i < n) (w : s ≤ 1) where
  exact_sees : (l : ℕ) → l ≤ 1 → exact_of i l s x ≡ eqb (rank n x) (4 * i + 2 * l + s)
  unfolding exact_of
  exact_sees l v = agree _ _ there back where
    there : (leb x.class 1 && (eqb x.node i && (eqb x.language l && eqb x.section s))) ≡ true → eqb (rank n x) (4 * i + 2 * l + s) ≡ true
    there e =
        let a = both (leb x.class 1) _ e in
        let b = both (eqb x.node i) _ a.1 in
        let c = both (eqb x.language l) _ b.1 in
        let o : x.node ≡ i = eqb-true _ _ b.0 in
        let p : x.language ≡ l = eqb-true _ _ c.0 in
        let q : x.section ≡ s = eqb-true _ _ c.1 in
        eq-eqb _ _ (rank_exact n x (leb-true _ _ a.0) ∙ rw (o, p, q))

    back : eqb (rank n x) (4 * i + 2 * l + s) ≡ true → (leb x.class 1 && (eqb x.node i && (eqb x.language l && eqb x.section s))) ≡ true
    back e =
        let q : rank n x ≡ 4 * i + 2 * l + s = eqb-true _ _ e in
        ⊎_elim
        (λ y. let p = rank_exact n x y in
        rw (le-leb _ _ y, eq-eqb x.node i (omega arith), eq-eqb x.language l (omega arith)) (eq-eqb x.section s (omega arith)))
        (λ y. absurd (omega (arith, rank-glob n x y)))
        (at_most_or_more x.class 1)

  glob_sees : (c : ℕ) → 1 < c → glob_of c i s x ≡ eqb (rank n x) (4 * n + 2 * n * (c - 2) + (2 * (n - 1 - i) + s))
  unfolding glob_of
  glob_sees c v = agree _ _ there back where
    there : (eqb x.class c && (eqb x.node i && eqb x.section s)) ≡ true → eqb (rank n x) (4 * n + 2 * n * (c - 2) + (2 * (n - 1 - i) + s)) ≡ true
    there e =
        let a = both (eqb x.class c) _ e in
        let b = both (eqb x.node i) _ a.1 in
        let p : x.class ≡ c = eqb-true _ _ a.0 in
        let q : x.node ≡ i = eqb-true _ _ b.0 in
        let o : x.section ≡ s = eqb-true _ _ b.1 in
        eq-eqb _ _ (rank-glob n x (omega arith) ∙ rw (p, q, o))

    back : eqb (rank n x) (4 * n + 2 * n * (c - 2) + (2 * (n - 1 - i) + s)) ≡ true → (eqb x.class c && (eqb x.node i && eqb x.section s)) ≡ true
    back e =
        let q : rank n x ≡ 4 * n + 2 * n * (c - 2) + (2 * (n - 1 - i) + s) = eqb-true _ _ e in
        ⊎_elim
        (λ y. absurd (omega (arith, rank_exact n x y)))
        (λ y.
        let d = digits (2 * n) (x.class - 2) (c - 2) (2 * (n - 1 - x.node) + x.section) (2 * (n - 1 - i) + s) (omega arith) (omega arith) (omega (arith, rank-glob n x y)) in
        rw (eq-eqb x.class c (omega (arith, d.0)), eq-eqb x.node i (omega (arith, d.1))) (eq-eqb x.section s (omega (arith, d.1))))
        (at_most_or_more x.class 1)

-- ---- how many stages there are
pub length_exact : (m i : ℕ) → length (exact_stages m i) ≡ 4 * m
unfolding exact_stages
length_exact zero i = refl
length_exact (suc m) i = omega (arith, length_exact m (i + 1))

pub length-glob : (c m : ℕ) → length (glob_stages c m) ≡ 2 * m
unfolding glob_stages
length-glob c zero = refl
length-glob c (suc m) = omega (arith, length-glob c m)

pub length-stages : (n : ℕ) → length (stages n) ≡ 10 * n
unfolding stages
length-stages n =
    simp (length-append, length_exact, length-glob) (omega arith)

-- ---- the stages, numbered from s on, are the tests of a rank
abbrev Numbered : Line → ℕ → ℕ → List Stage → Type 0
Numbered x r s ts = (k : ℕ) → k < length ts → get_or ts k no_stage x ≡ eqb r (s + k)

numbered-append : (x : Line) (r s u : ℕ) (ts us : List Stage) → u ≡ s + length ts → Numbered x r s ts → Numbered x r u us → Numbered x r s (ts ++ us)
numbered-append x r s u ts us e p q k h =
    ⊎_elim
    (λ y.
    let z : length ts + (k - length ts) ≡ k = omega arith in
    ap (λ (j : ℕ). get_or (ts ++ us) j no_stage x) (sym z)
    ∙ ap (λ (t : Stage). t x) (get_or-append-add ts us (k - length ts) no_stage)
    ∙ q (k - length ts) (omega (arith, length-append ts us))
    ∙ ap (eqb r) (omega arith))
    (λ y. ap (λ (t : Stage). t x) (get_or-append ts us no_stage k y) ∙ p k y)
    (at_most_or_more (length ts) k)

module _ (n : ℕ) (x : Line) (g : Ranged n x) where
  exact_numbered : (m i : ℕ) → i + m ≡ n → Numbered x (rank n x) (4 * i) (exact_stages m i)
  unfolding exact_stages
  exact_numbered zero i e k h = absurd (omega arith)
  exact_numbered (suc m) i e zero h = exact_sees n x g i 0 (omega arith) (omega arith) 0 (omega arith) ∙ ap (eqb (rank n x)) (omega arith)
  exact_numbered (suc m) i e (suc zero) h = exact_sees n x g i 1 (omega arith) (omega arith) 0 (omega arith) ∙ ap (eqb (rank n x)) (omega arith)
  exact_numbered (suc m) i e (suc (suc zero)) h = exact_sees n x g i 0 (omega arith) (omega arith) 1 (omega arith) ∙ ap (eqb (rank n x)) (omega arith)
  exact_numbered (suc m) i e (suc (suc (suc zero))) h = exact_sees n x g i 1 (omega arith) (omega arith) 1 (omega arith) ∙ ap (eqb (rank n x)) (omega arith)
  exact_numbered (suc m) i e (suc (suc (suc (suc k)))) h = exact_numbered m (i + 1) (omega arith) k (omega arith) ∙ ap (eqb (rank n x)) (omega arith)

  glob-numbered : (c m : ℕ) → 1 < c → m ≤ n → Numbered x (rank n x) (4 * n + 2 * n * (c - 2) + 2 * (n - m)) (glob_stages c m)
  unfolding glob_stages
  glob-numbered c zero v w k h = absurd (omega arith)
  glob-numbered c (suc m) v w zero h = glob_sees n x g m 0 (omega arith) (omega arith) c v ∙ ap (eqb (rank n x)) (omega arith)
  glob-numbered c (suc m) v w (suc zero) h = glob_sees n x g m 1 (omega arith) (omega arith) c v ∙ ap (eqb (rank n x)) (omega arith)
  glob-numbered c (suc m) v w (suc (suc k)) h = glob-numbered c m v (omega arith) k (omega arith) ∙ ap (eqb (rank n x)) (omega arith)

  stages-numbered : Numbered x (rank n x) 0 (stages n)
  unfolding stages
  stages-numbered =
      let two : ℕ = 4 * n + 2 * n * (nonstar_class - 2) + 2 * (n - n) in
      let three : ℕ = 4 * n + 2 * n * (star_class - 2) + 2 * (n - n) in
      let four : ℕ = 4 * n + 2 * n * (all_class - 2) + 2 * (n - n) in
      numbered-append x (rank n x) 0 two (exact_stages n 0) _ (omega (arith, length_exact n 0)) (exact_numbered n 0 (omega arith))
      (numbered-append x (rank n x) two three (glob_stages nonstar_class n) _ (omega (arith, length-glob nonstar_class n)) (glob-numbered nonstar_class n (omega arith) (omega arith))
      (numbered-append x (rank n x) three four (glob_stages star_class n) _ (omega (arith, length-glob star_class n)) (glob-numbered star_class n (omega arith) (omega arith))
      (glob-numbered all_class n (omega arith) (omega arith))))

  -- stage r looks at the line exactly when its rank is r
  pub stage_sees : (r : ℕ) → r < 10 * n → get_or (stages n) r no_stage x ≡ eqb (rank n x) r
  stage_sees r h = stages-numbered r (omega (arith, length-stages n)) ∙ ap (eqb (rank n x)) (omega arith)
