-- The first node of a name (`first_named`) where a node is added behind, or a node is put in the place of another of the same name. Assumes nothing.
use Prim.Native.Nat.{ℕ, zero, suc, ◌+◌, ◌-◌, ◌≤◌, ◌<◌}
use mathlib.Core.Path.{◌≡◌, refl}
use mathlib.Core.List.{List, [], ◌∷◌, ◌++◌}
use mathlib.Core.Bool.{Bool, true, false, cond}
use native.Mathlib.Omega.{arith}
use lib.ListN.{length, get_or, set}
use Rattle.lists.specs.Same.{same}
use Rattle.lists.proofs.SameLaws.{same_equal}
use Rattle.std.specs.Prelude.{Option, Some, None}
use Rattle.book.specs.Books.{Node, first_named, found, no_node}

-- what is answered tells what was found
pub found_nowhere : (o : Option ℕ) (a : Option ℕ) → o ≡ found a → o ≡ None → a ≡ None
found_nowhere o None e q = refl
found_nowhere o (Some i) e q = let z : ◌≡◌ {A = ℕ} 0 1 = cc in absurd (omega arith)

pub found_here : (o : Option ℕ) (a : Option ℕ) (i : ℕ) → o ≡ found a → o ≡ Some i → a ≡ Some i
found_here o None i e q = let z : ◌≡◌ {A = ℕ} 0 1 = cc in absurd (omega arith)
found_here o (Some j) i e q = cc

-- node i, among nodes that are numbered from k on, has the name
pub record First (xs : List Node) (k : ℕ) (t : List ℕ) (i : ℕ) : Type 0 where
  pub behind : k ≤ i
  pub before : i < k + length xs
  pub name : (get_or xs (i - k) no_node).name ≡ t

pub first_has : (xs : List Node) (k : ℕ) (t : List ℕ) (i : ℕ) → first_named xs k t ≡ Some i → First xs k t i
unfolding first_named
first_has [] k t i h = let z : ◌≡◌ {A = ℕ} 0 1 = cc in absurd (omega arith)
first_has (x ∷ xs) k t i h = go (same x.name t) refl h (first_has xs (k + 1) t i)
  where
    go : (v : Bool) → same x.name t ≡ v → cond v (Some k) (first_named xs (k + 1) t) ≡ Some i
        → (first_named xs (k + 1) t ≡ Some i → First xs (k + 1) t i) → First (x ∷ xs) k t i
    go true e j more =
        let z : k ≡ i = cc in
        let w : i - k ≡ 0 = omega arith in
        record { behind = omega arith; before = omega arith; name = rw w (same_equal x.name t e) }
    go false e j more =
        let r = more j in
        let w : i - k ≡ suc (i - (k + 1)) = omega (arith, r.behind) in
        record { behind = omega (arith, r.behind); before = omega (arith, r.before); name = rw w r.name }

-- it stays the first where others come behind
pub first_front : (xs ys : List Node) (k : ℕ) (t : List ℕ) (i : ℕ) → first_named xs k t ≡ Some i → first_named (xs ++ ys) k t ≡ Some i
unfolding first_named
first_front [] ys k t i h = let z : ◌≡◌ {A = ℕ} 0 1 = cc in absurd (omega arith)
first_front (x ∷ xs) ys k t i h = go (same x.name t) h (first_front xs ys (k + 1) t i)
  where
    go : (v : Bool) → cond v (Some k) (first_named xs (k + 1) t) ≡ Some i
        → (first_named xs (k + 1) t ≡ Some i → first_named (xs ++ ys) (k + 1) t ≡ Some i)
        → cond v (Some k) (first_named (xs ++ ys) (k + 1) t) ≡ Some i
    go true j more = j
    go false j more = more j

-- a node of the same name in the place of another
pub name_set : (xs : List Node) (i j : ℕ) (y : Node) → y.name ≡ (get_or xs i no_node).name → (get_or (set xs i y) j no_node).name ≡ (get_or xs j no_node).name
name_set [] i j y e = refl
name_set (x ∷ xs) zero zero y e = e
name_set (x ∷ xs) zero (suc j) y e = refl
name_set (x ∷ xs) (suc i) zero y e = refl
name_set (x ∷ xs) (suc i) (suc j) y e = name_set xs i j y e

pub first_set : (xs : List Node) (i : ℕ) (y : Node) (k : ℕ) (t : List ℕ) → y.name ≡ (get_or xs i no_node).name
    → first_named (set xs i y) k t ≡ first_named xs k t
unfolding first_named
first_set [] i y k t e = refl
first_set (x ∷ xs) zero y k t e = rw e
first_set (x ∷ xs) (suc i) y k t e = rw (first_set xs i y (k + 1) t e)
