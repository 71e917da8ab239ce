-- A part of a lent buffer that is cleared: zeros are pasted over it. Assumes nothing.
use Prim.Native.Nat.{ℕ, ◌+◌, ◌-◌, ◌≤◌}
use mathlib.Core.Path.{◌≡◌, sym, ap, ◌∙◌}
use mathlib.Core.List.{List, ◌++◌, append_assoc}
use native.Mathlib.Omega.{arith}
use borrow.Rule.Slice.PartMut.{mid_len, mid_of, post_of, put_mid}
use lib.ListN.{length, drop, length-replicate, take}
use lib.Seq.{drop-drop, paste, take-length}
use Rattle.packing.specs.Padding.{zeros}
use Rattle.trial.specs.Clearing.{emptied}

all_zeros : (k : ℕ) → take k (zeros k) ≡ zeros k
all_zeros k = ap (λ (n : ℕ). take n (zeros k)) (sym (length-replicate k 0)) ∙ take-length (zeros k)

-- the part from a to e, cleared and put back
pub part-cleared : (a e : ℕ) (d ys : List ℕ) → e ≤ length d → ys ≡ zeros (length (mid_of a (e - a) d)) → put_mid a (e - a) d ys ≡ emptied d a e
part-cleared a e d ys h c =
    ap (λ (z : List ℕ). take a d ++ (z ++ post_of a (e - a) d)) (c ∙ ap zeros (mid_len a e d h) ∙ sym (all_zeros (e - a)))
    ∙ ap (λ (z : List ℕ). take a d ++ (take (e - a) (zeros (e - a)) ++ z)) (drop-drop (e - a) a d)
    ∙ sym (append_assoc (take a d) (take (e - a) (zeros (e - a))) (drop (a + (e - a)) d))

-- the same of k numbers from a on
pub row-cleared : (a k : ℕ) (d ys : List ℕ) → a + k ≤ length d → ys ≡ zeros (length (mid_of a (a + k - a) d)) → put_mid a (a + k - a) d ys ≡ paste d a (zeros k) k
row-cleared a k d ys h c = let e : a + k - a ≡ k = omega arith in part-cleared a (a + k) d ys h c ∙ ap (λ (n : ℕ). paste d a (zeros n) n) e
