-- Where a line ends: that a line of a text ends within it, at a line feed and before none, and that the lines of a text (specs/Splitting.antt) go to where
-- `line_end` tells. Assumes nothing.
use Prim.Native.Nat.{ℕ, zero, suc, ◌+◌, ◌-◌, ◌≤◌, ◌<◌}
use mathlib.Core.Path.{◌≡◌, refl, sym, ◌∙◌}
use mathlib.Core.List.{List, [], ◌∷◌}
use mathlib.Core.Bool.{Bool, true, false}
use native.Mathlib.Decide.{dec_le}
use native.Mathlib.Omega.{arith}
use borrow.Author.Tests.{eqb-true, eqb-false}
use lib.ListN.{length, get_or, take, drop, length-drop, drop_of_length-le}
use lib.Seq.{take_all}
use Rattle.numbers.specs.Signs.{line_feed}
use Rattle.std.specs.Option.{unwrap_or}
use Rattle.std.specs.Prelude.{Option, Some, None}
use Rattle.linker_script.specs.Finding.{Test, first_from, is}
use Rattle.linker_script.proofs.Searches.{first_here, first_on, first_within, passes}
use Rattle.input.specs.Splitting.{line_end, lines_in}
use Rattle.input.proofs.Cuts.{lines_to_end, lines_to_feed}

-- where nothing is found, no place passes
none_passes : (t : Test) (s : List ℕ) (n p : ℕ) → length s - p ≤ n → first_from t s p ≡ None → (k : ℕ) → p ≤ k → k < length s → passes t s k ≡ false
none_passes t s zero p h e k x y = absurd (omega arith)
none_passes t s (suc n) p h e k x y = go (passes t s p) refl (dec_le (p + 1) k) (λ f g. none_passes t s n (p + 1) (omega arith) f k g y)
  where
    within : p < length s
    within = omega arith

    go : (v : Bool) → passes t s p ≡ v → Dec (p + 1 ≤ k) → (first_from t s (p + 1) ≡ None → p + 1 ≤ k → passes t s k ≡ false) → passes t s k ≡ false
    go true f d on =
        let a = first_here t s p within f in
        let z : ◌≡◌ {A = ℕ} 0 1 = cc in
        absurd (omega arith)
    go false f (yes g) on = on (sym (first_on t s p within f) ∙ e) g
    go false f (no g) on =
        let z : p ≡ k = omega arith in
        rw (← z) f

module _ (s : List ℕ) (at : ℕ) where
  pub end_within : at ≤ length s → (at ≤ line_end s at) × (line_end s at ≤ length s)
  unfolding line_end
  end_within h = go (first_from (is line_feed) s at) refl
    where
      go : (f : Option ℕ) → first_from (is line_feed) s at ≡ f → (at ≤ unwrap_or f (length s)) × (unwrap_or f (length s) ≤ length s)
      go (Some p) e =
          let w = first_within e in
          (w.onward, omega (arith, w.within))
      go None e = (h, omega arith)

  pub end_feed : line_end s at < length s → get_or s (line_end s at) 0 ≡ line_feed
  unfolding line_end
  end_feed = go (first_from (is line_feed) s at) refl
    where
      go : (f : Option ℕ) → first_from (is line_feed) s at ≡ f → unwrap_or f (length s) < length s → get_or s (unwrap_or f (length s)) 0 ≡ line_feed
      go (Some p) e h = eqb-true (get_or s p 0) line_feed (first_within e).holds
      go None e h = absurd (omega arith)

  pub end_before : (k : ℕ) → at ≤ k → k < line_end s at → get_or s k 0 ≡ line_feed → ⊥
  unfolding line_end
  end_before k x = go (first_from (is line_feed) s at) refl
    where
      go : (f : Option ℕ) → first_from (is line_feed) s at ≡ f → k < unwrap_or f (length s) → get_or s k 0 ≡ line_feed → ⊥
      go (Some p) e h = eqb-false (get_or s k 0) line_feed ((first_within e).before k x h)
      go None e h = eqb-false (get_or s k 0) line_feed (none_passes (is line_feed) s (length s - at) at (omega arith) e k x h)

-- the same of an end that is known
pub line-within : (s : List ℕ) (at end : ℕ) → at ≤ length s → end ≡ line_end s at → (at ≤ end) × (end ≤ length s)
line-within s at end h e = rw e (end_within s at h)

-- from a place within the text on, the first line goes to its end, and the others begin behind that
pub lines_from : (s : List ℕ) (at : ℕ) → at < length s
    → lines_in [] (drop at s) ≡ take (line_end s at - at) (drop at s) ∷ lines_in [] (drop (line_end s at + 1) s)
unfolding line_end lines_in
lines_from s at h = go (first_from (is line_feed) s at) refl
  where
    behind : lines_in [] (drop (length s + 1) s) ≡ []
    behind = rw (drop_of_length-le s {i = length s + 1} (omega arith))

    go : (f : Option ℕ) → first_from (is line_feed) s at ≡ f
        → lines_in [] (drop at s) ≡ take (unwrap_or f (length s) - at) (drop at s) ∷ lines_in [] (drop (unwrap_or f (length s) + 1) s)
    go (Some p) e = lines_to_feed s at p e
    go None e = lines_to_end s at h e ∙ rw (behind, take_all (length s - at) (drop at s) (omega (arith, length-drop at s)))
