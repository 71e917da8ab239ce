-- `same` is equality. Assumes nothing.
use Prim.Native.Nat.{ℕ}
use mathlib.Core.Path.{◌≡◌, refl, sym, ap, ap₂}
use mathlib.Core.List.{List, [], ◌∷◌}
use mathlib.Core.Bool.{Bool, true, false, false≢true, ◌&&◌}
use lib.Dec.{eqb}
use lib.ListN.{length}
use lib.Pointwise.{pointwise}
use borrow.Author.Tests.{eqb-true, eq-eqb}
use Rattle.lists.specs.Same.{same}
use Rattle.lists.proofs.Tests.{both, fails}

-- lists that are the same are equal
pub same_equal : (l m : List ℕ) → same l m ≡ true → l ≡ m
unfolding same
same_equal [] [] e = refl
same_equal [] (y ∷ m) e = absurd (false≢true e)
same_equal (x ∷ l) [] e = absurd (false≢true e)
same_equal (x ∷ l) (y ∷ m) e =
    let h = both (eqb x y) (same l m) e in
    ap₂ (λ (a : ℕ) (t : List ℕ). a ∷ t) (eqb-true x y h.0) (same_equal l m h.1)

-- a list is the same as itself
pub same_refl : (l : List ℕ) → same l l ≡ true
unfolding same
same_refl [] = refl
same_refl (x ∷ l) = rw (eq-eqb x x refl) (same_refl l)

-- lists of other lengths are not
pub same_lengths : (l m : List ℕ) → (length l ≡ length m → ⊥) → false ≡ same l m
same_lengths l m f = sym (fails (λ t. f (ap length (same_equal l m t))))

-- it is what `==` tells of two slices
pub same_pointwise : (l m : List ℕ) → pointwise eqb l m ≡ same l m
unfolding same
same_pointwise [] [] = refl
same_pointwise [] (y ∷ m) = refl
same_pointwise (x ∷ l) [] = refl
same_pointwise (x ∷ l) (y ∷ m) = ap (λ (b : Bool). eqb x y && b) (same_pointwise l m)
