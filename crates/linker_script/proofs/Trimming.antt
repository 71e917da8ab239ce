-- What trimming does to a byte at the end of a text. Assumes nothing.
use Prim.Native.Nat.{ℕ, ◌+◌, suc, ◌-◌, ◌<◌, ◌≤◌}
use mathlib.Core.Path.{◌≡◌, sym, ap, refl, ◌∙◌}
use mathlib.Core.List.{List, [], ◌∷◌, ◌++◌}
use mathlib.Core.Bool.{Bool, true, false, cond, not}
use native.Mathlib.Nat.{le_refl}
use native.Mathlib.Omega.{arith}
use borrow.Author.Tests.{not-false}
use lib.ListN.{length, get_or, take}
use lib.Seq.{take-suc, take-length}
use Rattle.linker_script.specs.Trim.{white, keeping, trim_end}

trim_white : (l : List ℕ) (b : ℕ) → white b ≡ true → trim_end (l ++ (b ∷ [])) ≡ trim_end l
unfolding trim_end
trim_white [] b e = rw e
trim_white (c ∷ l) b e = rw (trim_white l b e)

keeping_end : (c : ℕ) (l : List ℕ) (b : ℕ) → keeping c (l ++ (b ∷ [])) ≡ c ∷ (l ++ (b ∷ []))
keeping_end c [] b = refl
keeping_end c (d ∷ l) b = refl

trim_kept : (l : List ℕ) (b : ℕ) → white b ≡ false → trim_end (l ++ (b ∷ [])) ≡ l ++ (b ∷ [])
unfolding trim_end
trim_kept [] b e = rw e
trim_kept (c ∷ l) b e = rw (trim_kept l b e) (keeping_end c l b)

keeping-few : (b : ℕ) (l : List ℕ) → length (keeping b l) ≤ suc (length l)
keeping-few b [] = go (white b)
  where
    go : (v : Bool) → length (cond v [] (b ∷ [])) ≤ 1
    go true = omega arith
    go false = omega arith
keeping-few b (c ∷ l) = omega arith

pub trim_few : (s : List ℕ) → length (trim_end s) ≤ length s
unfolding trim_end
trim_few [] = omega arith
trim_few (b ∷ s) = omega (arith, keeping-few b (trim_end s), trim_few s)

-- ---- the loop of `trimmed_length`: the first e bytes are left
pub record Kept (s : List ℕ) (e : ℕ) : Type 0 where
  pub within : e ≤ length s
  pub same : trim_end s ≡ trim_end (take e s)

pub kept_all : (s : List ℕ) → Kept s (length s)
kept_all s = record { within = le_refl (length s); same = rw take-length }

module _ {s : List ℕ} {e : ℕ} (inv : Kept s e) where
  pub kept_none : e ≤ 0 → [] ≡ trim_end s
  unfolding trim_end
  kept_none h =
      let z : e ≡ 0 = omega arith in
      sym (inv.same ∙ rw z)

  module _ (h : 0 < e) (v : Bool) (w : v ≡ white (get_or s (e - 1) 0)) where
    last_byte : take e s ≡ take (e - 1) s ++ (get_or s (e - 1) 0 ∷ [])
    last_byte =
        let z : e ≡ suc (e - 1) = omega arith in
        ap (λ (n : ℕ). take n s) z ∙ take-suc s (e - 1) 0 (omega (arith, inv.within))

    pub kept_less : not v ≡ false → Kept s (e - 1)
    kept_less k =
        record {
          within = omega (arith, inv.within);
          same = inv.same ∙ rw last_byte (trim_white (take (e - 1) s) (get_or s (e - 1) 0) (sym w ∙ not-false v k));
        }

    pub kept-ends : v ≡ false → (e - 1 + 1 ≤ length s) × (take (e - 1 + 1) s ≡ trim_end s)
    kept-ends k =
        let n = trim_kept (take (e - 1) s) (get_or s (e - 1) 0) (sym w ∙ k) in
        let z : e - 1 + 1 ≡ e = omega arith in
        rw z (inv.within, sym (inv.same ∙ rw last_byte n))
