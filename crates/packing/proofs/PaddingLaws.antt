-- Laws of a padded buffer (specs/Padding.antt): its length, its front, and what a paste behind what is there, zeros over its end, or a part that is cleared
-- make of it. Assumes nothing.
use Prim.Native.Nat.{ℕ, zero, suc, ◌+◌, ◌-◌, ◌≤◌}
use mathlib.Core.Path.{◌≡◌, refl, sym, ap, ap₂, ◌∙◌}
use mathlib.Core.Bool.{true}
use mathlib.Core.List.{List, [], ◌∷◌, ◌++◌, append_assoc, append-nil}
use native.Mathlib.Nat.{sub-zero}
use native.Mathlib.Omega.{arith}
use borrow.Author.Tests.{eqb-true}
use lib.Dec.{eqb}
use lib.ListN.{length, take, drop, length-append, length-replicate, length-drop, take-append-drop, replicate-append-replicate}
use lib.Seq.{paste, drop-paste, take-append_seam, drop-append_seam, drop-append-add, drop-drop, take-length, length-take-le}
use Rattle.lists.specs.Each.{every}
use Rattle.lists.proofs.Tests.{both}
use Rattle.packing.specs.Padding.{zeros, pad, all_zero}

-- a padded list is as long as its room
pub length-pad : (n : ℕ) (xs : List ℕ) → length xs ≤ n → length (pad n xs) ≡ n
unfolding pad
length-pad n xs h = simp (length-append, length-replicate) (omega arith)

zeros_at : (m n : ℕ) → m ≡ n → zeros m ≡ zeros n
zeros_at m n e = ap zeros e

-- zeros behind zeros
pub zeros-join : (a b n : ℕ) → a + b ≡ n → zeros a ++ zeros b ≡ zeros n
zeros-join a b n e = replicate-append-replicate a b 0 ∙ zeros_at (a + b) n e

drop-zeros : (k n : ℕ) → drop k (zeros n) ≡ zeros (n - k)
drop-zeros zero n = zeros_at n (n - 0) (omega arith)
drop-zeros (suc k) zero = zeros_at 0 (0 - suc k) (omega arith)
drop-zeros (suc k) (suc n) = drop-zeros k n ∙ zeros_at (n - k) (suc n - suc k) (omega arith)

take-zeros : (n : ℕ) → take n (zeros n) ≡ zeros n
take-zeros zero = refl
take-zeros (suc n) = ap (λ (l : List ℕ). 0 ∷ l) (take-zeros n)

-- a buffer of zeros is an empty list, padded
pub pad-nil : (n : ℕ) → zeros n ≡ pad n []
unfolding pad
pad-nil n = ap zeros (sym (sub-zero n))

-- what stands in front of a padded list stands in front
pub pad-front : (n m : ℕ) (r xs : List ℕ) → n ≡ length r + m → pad n (r ++ xs) ≡ r ++ pad m xs
unfolding pad
pad-front n m r xs e =
    let d : n - (length r + length xs) ≡ m - length xs = omega arith in
    simp (append_assoc, length-append, d)

-- what is padded fits its room
pub pad-fits : (l xs : List ℕ) → l ≡ pad (length l) xs → length xs ≤ length l
unfolding pad
pad-fits l xs e = omega (arith, ap length e ∙ length-append xs (zeros (length l - length xs)))

-- a list in a room that it fills is padded
pub pad-full : (xs : List ℕ) → xs ≡ pad (length xs) xs
unfolding pad
pad-full xs =
    let z : length xs - length xs ≡ 0 = omega arith in
    sym (ap (λ (n : ℕ). xs ++ zeros n) z ∙ append-nil xs)

-- zeros are all zero
pub all_zero-zeros : (n : ℕ) → all_zero (zeros n) ≡ true
unfolding all_zero every
all_zero-zeros zero = refl
all_zero-zeros (suc n) = all_zero-zeros n

-- what is all zero is zeros
pub all_zero_is : (xs : List ℕ) → all_zero xs ≡ true → xs ≡ zeros (length xs)
unfolding all_zero every
all_zero_is [] e = refl
all_zero_is (x ∷ xs) e =
    let h = both (eqb x 0) (all_zero xs) e in
    ap₂ (λ (a : ℕ) (l : List ℕ). a ∷ l) (eqb-true x 0 h.0) (all_zero_is xs h.1)

-- behind what is padded is zero
pub pad_rest : (n : ℕ) (xs : List ℕ) → all_zero (drop (length xs) (pad n xs)) ≡ true
unfolding pad
pad_rest n xs = simp (drop-append_seam, all_zero-zeros)

-- a list whose end is zero is its front, padded
pub pad-split : (l : List ℕ) (k : ℕ) → k ≤ length l → all_zero (drop k l) ≡ true → l ≡ pad (length l) (take k l)
unfolding pad
pad-split l k h z =
    sym (take-append-drop k l)
    ∙ ap (λ (r : List ℕ). take k l ++ r)
    (all_zero_is (drop k l) z ∙ zeros_at (length (drop k l)) (length l - length (take k l)) (omega (arith, length-drop k l, length-take-le k l h)))

-- ---- pastes
-- behind what is pasted a list is as it was
pub paste_behind : (d s : List ℕ) (at n k : ℕ) → at + n ≤ k → at ≤ length d → n ≤ length s → drop k (paste d at s n) ≡ drop k d
paste_behind d s at n k h a b =
    let m : ℕ = k - (at + n) in
    let e : k ≡ at + n + m = omega arith in
    ap (λ (i : ℕ). drop i (paste d at s n)) e
    ∙ sym (drop-drop m (at + n) (paste d at s n))
    ∙ ap (drop m) (drop-paste d at s n a b)
    ∙ drop-drop m (at + n) d
    ∙ ap (λ (i : ℕ). drop i d) (sym e)

-- as a caller has them: a buffer that is padded, an index and a count that are lengths
module _ (n : ℕ) {l : List ℕ} (xs ys : List ℕ) {at k : ℕ} where
  -- what is pasted behind what is there is appended
  pub pad-put : l ≡ pad n xs → at ≡ length xs → k ≡ length ys → at + k ≤ n → paste l at ys k ≡ pad n (xs ++ ys)
  unfolding pad
  pad-put e a b h =
      let d : n - length xs - length ys ≡ n - (length xs + length ys) = omega arith in
      rw (e, a, b) (simp (take-append_seam, take-length, drop-append-add, drop-zeros, length-append, append_assoc, d))

  -- and zeros in its place take it back
  pub pad_unput : l ≡ pad n (xs ++ ys) → at ≡ length xs → k ≡ length ys → at + k ≤ n → paste l at (zeros k) k ≡ pad n xs
  unfolding pad
  pad_unput e a b h =
      let d : length ys + (n - (length xs + length ys)) ≡ n - length xs = omega arith in
      rw (e, a, b)
      (simp (append_assoc, take-append_seam, take-zeros, drop-append-add, drop-append_seam, length-append, replicate-append-replicate, d))

-- ---- zeros in the place of a part that is lent: ys is what the part holds then, as many zeros as it has numbers
module _ (l : List ℕ) {ys : List ℕ} where
  -- a part from a to e
  pub part-cleared : (a e : ℕ) → a ≤ e → e ≤ length l → ys ≡ zeros (length (take (e - a) (drop a l)))
      → take a l ++ (ys ++ drop (e - a) (drop a l)) ≡ take a l ++ (zeros (e - a) ++ drop e l)
  part-cleared a e h r q =
      let n : length (take (e - a) (drop a l)) ≡ e - a = length-take-le (e - a) (drop a l) (omega (arith, length-drop a l)) in
      let k : a + (e - a) ≡ e = omega arith in
      rw (q, n, drop-drop, k)

  -- the front, where the rest is zero
  pub front-cleared : (k : ℕ) → k ≤ length l → all_zero (drop k l) ≡ true → ys ≡ zeros (length (take k l)) → ys ++ drop k l ≡ pad (length l) []
  front-cleared k h z q =
      let n : length (take k l) + length (drop k l) ≡ length l = omega (arith, length-take-le k l h, length-drop k l) in
      ap₂ (λ (a b : List ℕ). a ++ b) q (all_zero_is (drop k l) z)
      ∙ zeros-join (length (take k l)) (length (drop k l)) (length l) n
      ∙ pad-nil (length l)
