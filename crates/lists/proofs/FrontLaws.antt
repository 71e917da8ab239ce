-- The front of a buffer, store by store: one store more behind what stands there, or a run of them, and a list that is written whole, one item at a turn.
-- Assumes nothing.
use Prim.Native.Nat.{ℕ, suc, ◌+◌, ◌<◌, ◌≤◌}
use mathlib.Core.Path.{◌≡◌, refl, ap, ◌∙◌}
use mathlib.Core.List.{List, [], ◌∷◌, ◌++◌, append_assoc, append-nil}
use native.Mathlib.Numerals.{add-one}
use native.Mathlib.Omega.{arith}
use lib.ListN.{length, set, length-append, length-drop, length-set}
use lib.Seq.{drop-cons, set-append_seam, sets}
use Rattle.lists.specs.Front.{front}

module _ {A : Type 0} where
  pub front-nil : (d : List A) → d ≡ front [] d
  unfolding front
  front-nil d = refl

  pub front_more : (u d : List A) (x : A) → length u < length d → set (front u d) (length u) x ≡ front (u ++ x ∷ []) d
  unfolding front
  front_more u d x h =
      rw (drop-cons d (length u) x h) (set-append_seam u _ _ x ∙ simp (append_assoc, length-append, add-one))

  pub front-run : (u d v : List A) → length u + length v ≤ length d → sets (front u d) (length u) v ≡ front (u ++ v) d
  front-run u d [] h = rw append-nil
  front-run u d (x ∷ v) h =
      let e : suc (length u) ≡ length (u ++ x ∷ []) = simp length-append (omega arith) in
      rw (front_more u d x (omega arith), e)
      (front-run (u ++ x ∷ []) d v (omega (arith, e)) ∙ rw append_assoc)

  pub length_front : (u d : List A) → length u ≤ length d → length (front u d) ≡ length d
  unfolding front
  length_front u d h = simp (length-append, length-drop) (omega arith)

-- l is d with n items at its front, which with the rest r are w
pub record Written {A : Type 0} (w d l : List A) (n : ℕ) (r : List A) : Type 0 where
  pub so_far : List A
  pub count : n ≡ length so_far
  pub long : length l ≡ length d
  pub list : l ≡ front so_far d
  pub whole : so_far ++ r ≡ w

module _ {A : Type 0} where
  pub written_start : {w d : List A} → Written w d d 0 w
  written_start {d = d} = record { so_far = []; count = refl; long = refl; list = front-nil d; whole = refl }

  module _ {w d l : List A} {n : ℕ} {r : List A} (z : Written w d l n r) where
    pub written_end : r ≡ [] → l ≡ front w d
    written_end e = z.list ∙ rw (← z.whole, e, append-nil)

    pub written_count : r ≡ [] → n ≡ length w
    written_count e = omega (arith, ap length z.whole, length-append z.so_far r, z.count, ap length e)

    pub written-room : length w ≤ length d → 0 < length r → n < length l
    written-room fits h = omega (arith, ap length z.whole, length-append z.so_far r, z.count, z.long)

    pub written_more : length w ≤ length d → {x : A} {q : List A} → r ≡ x ∷ q → Written w d (set l n x) (n + 1) q
    written_more fits {x} {q} e = record {
      so_far = z.so_far ++ x ∷ [];
      count = simp length-append (omega (arith, z.count));
      long = length-set l n x ∙ z.long;
      list =
          let h = written-room fits (omega (arith, ap length e)) in
          rw (z.list, z.count) (front_more z.so_far d x (omega (arith, z.count, z.long)));
      whole = append_assoc z.so_far (x ∷ []) q ∙ rw (← e) z.whole;
    }
