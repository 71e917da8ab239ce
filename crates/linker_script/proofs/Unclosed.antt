-- A comment that nothing closes begins in the text. Assumes nothing.
use Prim.Native.Nat.{ℕ, zero, suc, ◌+◌, ◌<◌, ◌≤◌}
use mathlib.Core.Path.{◌≡◌}
use mathlib.Core.List.{List, [], ◌∷◌}
use native.Mathlib.Omega.{arith}
use lib.ListN.{length, drop, length-drop}
use Rattle.numbers.specs.declared.Edition.{Edition}
use Rattle.std.specs.Prelude.{Ok, Err}
use Rattle.linker_script.specs.Skip.{Skipped, Move, stop, pass, open_comment, move, go, skip, skip_past}

not_open : (p q : ℕ) → Ok p ≡ Err q → ⊥
not_open p q e = let z : ◌≡◌ {A = ℕ} 0 1 = cc in omega arith

module _ (x : Edition) (q : ℕ) where
  on_move : (m : Move) (p n : ℕ) (on : ℕ → Skipped) → go m p on ≡ Err q → ((k : ℕ) → on k ≡ Err q → q < p + 1 + n) → q < p + suc n
  on_move stop p n on e more = absurd (not_open p q e)
  on_move (pass k) p n on e more = omega (arith, more k e)
  on_move open_comment p n on e more = let z : p ≡ q = cc in omega arith

  unclosed_in : (k p : ℕ) (l : List ℕ) → skip_past x k p l ≡ Err q → q < p + length l
  unfolding skip_past
  unclosed_in k p [] e = absurd (not_open p q e)
  unclosed_in (suc k) p (b ∷ l) e = omega (arith, unclosed_in k (p + 1) l e)
  unclosed_in zero p (b ∷ l) e = on_move (move x p b l) p (length l) (λ k. skip_past x k (p + 1) l) e (λ k f. unclosed_in k (p + 1) l f)

pub unclosed-within : (x : Edition) (s : List ℕ) (p q : ℕ) → p ≤ length s → skip x s p ≡ Err q → q < length s
unfolding skip
unclosed-within x s p q h e = omega (arith, unclosed_in x q 0 p (drop p s) e, length-drop p s)
