-- Whether two lists are the same, compared from both ends at once: lists of one length of which the first i and the last i are. Assumes nothing.
use Prim.Native.Nat.{ℕ, suc, ◌+◌, ◌-◌, ◌<◌, ◌≤◌}
use mathlib.Core.Path.{◌≡◌, refl, sym, ap, ap₂, ◌∙◌}
use mathlib.Core.Bool.{true, false}
use mathlib.Core.List.{List, [], ◌∷◌, ◌++◌}
use native.Mathlib.Numerals.{add-one}
use native.Mathlib.Omega.{arith}
use lib.ListN.{length, take, drop, get_or, drop_of_length-le}
use lib.Seq.{drop-cons, take-suc}
use Rattle.std.proofs.lemmas.List.{take-append-drop, drop-drop}
use Rattle.lists.specs.Same.{same}
use Rattle.lists.proofs.SameLaws.{same_equal, same_refl}
use Rattle.lists.proofs.Tests.{fails}

pub record Alike (a b : List ℕ) (i : ℕ) : Type 0 where
  pub long : length a ≡ length b
  pub front : take i a ≡ take i b
  pub back : drop (length a - i) a ≡ drop (length a - i) b

-- two numbers that differ answer no
pub alike-differs : (a b : List ℕ) (j : ℕ) → (get_or a j 0 ≡ get_or b j 0 → ⊥) → false ≡ same a b
alike-differs a b j f = sym (fails (λ t. f (ap (λ (l : List ℕ). get_or l j 0) (same_equal a b t))))

module _ {a b : List ℕ} where
  -- nothing is compared at first
  pub alike-starts : length a ≡ length b → Alike a b 0
  alike-starts e =
      let h : length a ≤ length a - 0 = omega arith in
      let k : length b ≤ length a - 0 = omega arith in
      record { long = e; front = refl; back = drop_of_length-le a h ∙ sym (drop_of_length-le b k) }

  module _ {i : ℕ} (z : Alike a b i) where
    -- one more at each end
    pub alike_more : i < length a → get_or a (length a - 1 - i) 0 ≡ get_or b (length a - 1 - i) 0
        → get_or a i 0 ≡ get_or b i 0 → Alike a b (i + 1)
    alike_more h e f =
        let j = length a - 1 - i in
        let k : i < length b = omega (arith, z.long) in
        let m : j < length a = omega arith in
        let n : j < length b = omega (arith, z.long) in
        let p : length a - (i + 1) ≡ j = omega arith in
        let q : suc j ≡ length a - i = omega arith in
        let w : drop (suc j) a ≡ drop (suc j) b = rw q z.back in
        record {
          long = z.long;
          front = rw add-one (take-suc a i 0 h ∙ ap₂ (λ (l : List ℕ) (x : ℕ). l ++ x ∷ []) z.front f ∙ sym (take-suc b i 0 k));
          back = rw p (drop-cons a j 0 m ∙ ap₂ (λ (x : ℕ) (l : List ℕ). x ∷ l) e w ∙ sym (drop-cons b j 0 n));
        }

    -- where the two parts meet the answer is yes
    pub alike-ends : length a ≤ i + i → true ≡ same a b
    alike-ends h =
        let m = length a - i in
        let n : m + (i - m) ≡ i = omega arith in
        let r : drop i a ≡ drop i b =
        rw (← n) (sym (drop-drop (i - m) m a) ∙ ap (λ (l : List ℕ). drop (i - m) l) z.back ∙ drop-drop (i - m) m b) in
        let e : a ≡ b = sym (take-append-drop i a) ∙ ap₂ (λ (l t : List ℕ). l ++ t) z.front r ∙ take-append-drop i b in
        sym (rw (← e) (same_refl a))
