-- The test of `is_mark`, and the turns of `find_mark`. Assumes nothing.
use Prim.Native.Nat.{ℕ, ◌+◌, ◌-◌, ◌<◌, ◌≤◌}
use mathlib.Core.Path.{◌≡◌, refl, sym, ◌∙◌}
use mathlib.Core.List.{List, [], ◌∷◌}
use mathlib.Core.Bool.{Bool, true, false, ◌&&◌}
use native.Mathlib.Omega.{arith}
use borrow.Author.Tests.{eq-eqb, ne_eqb, eqb-true, eqb-false}
use lib.Dec.{eqb}
use lib.ListN.{length, get_or, take, drop, length-drop, drop_of_length-le}
use lib.Pointwise.{pointwise}
use Rattle.std.specs.Cmp.Lexicographic.{same_text}
use Rattle.std.specs.List.{starts_with}
use lib.Seq.{take_all}
use Rattle.numbers.specs.Signs.{line_feed}
use Rattle.std.specs.Prelude.{Some, None}
use Rattle.linker_script.specs.Finding.{found}
use Rattle.linker_script.proofs.Searches.{drop_next}
use Rattle.input.specs.Splitting.{mark, mark_in, marks, percent}

-- ---- a line `%%` alone, or with its line feed
abbrev alone : List ℕ
alone = percent ∷ percent ∷ []

abbrev ahead : List ℕ
ahead = percent ∷ percent ∷ line_feed ∷ []

never : (v w : Bool) → (v && (w && false)) ≡ false
never true true = refl
never true false = refl
never false w = refl

turned : (a b : ℕ) → eqb a b ≡ eqb b a
turned a b = go (eqb b a) refl
  where
    go : (v : Bool) → eqb b a ≡ v → eqb a b ≡ v
    go true e = eq-eqb a b (sym (eqb-true b a e))
    go false e = ne_eqb a b (λ f. eqb-false b a e (sym f))

pub marks_alone : (s : List ℕ) → true ≡ pointwise eqb s alone → true ≡ marks s
unfolding marks
marks_alone s h = rw (same_text s alone h) refl

pub marks_ahead : (s : List ℕ) → false ≡ pointwise eqb s alone → starts_with eqb s ahead ≡ marks s
unfolding marks
marks_ahead [] h = refl
marks_ahead (a ∷ []) h = rw (turned percent a) refl
marks_ahead (a ∷ b ∷ []) h = never (eqb percent a) (eqb percent b) ∙ h
marks_ahead (a ∷ b ∷ c ∷ l) h =
    let n : eqb (length (a ∷ b ∷ c ∷ l)) 2 ≡ false = ne_eqb (length (a ∷ b ∷ c ∷ l)) 2 (λ m. omega arith) in
    rw (n, turned percent a, turned percent b, turned line_feed c) (go (eqb a percent) (eqb b percent) (eqb c line_feed))
  where
    go : (u v w : Bool) → (u && (v && (w && true))) ≡ (u && (v && w))
    go true true true = refl
    go true true false = refl
    go true false w = refl
    go false v w = refl

-- ---- the loop of `find_mark`: what is found from i on decides
module _ (s : List ℕ) (fresh : Bool) (i : ℕ) (inv : mark s ≡ mark_in fresh i (drop i s)) where
  pub mark_none : length s ≤ i → None ≡ mark s
  unfolding mark_in
  mark_none h = sym (inv ∙ rw (drop_of_length-le s h))

  module _ (h : i < length s) where
    all_behind : take (length s - i) (drop i s) ≡ drop i s
    all_behind = take_all (length s - i) (drop i s) (omega (arith, length-drop i s))

    step : (v : Bool) → (fresh && marks (drop i s)) ≡ v → mark s ≡ found v i (mark_in (eqb (get_or s i 0) line_feed) (i + 1) (drop (i + 1) s))
    unfolding mark_in
    step v e = inv ∙ rw (← e) (rw (drop_next s i h))

    pub mark_here : fresh ≡ true → true ≡ marks (take (length s - i) (drop i s)) → Some i ≡ mark s
    mark_here f k = sym (step true (rw (f, ← all_behind) (sym k)))

    pub mark-stale : fresh ≡ false → mark s ≡ mark_in (eqb (get_or s i 0) line_feed) (i + 1) (drop (i + 1) s)
    mark-stale f = step false (rw f refl)

    pub mark-other : fresh ≡ true → false ≡ marks (take (length s - i) (drop i s)) → mark s ≡ mark_in (eqb (get_or s i 0) line_feed) (i + 1) (drop (i + 1) s)
    mark-other f k = step false (rw (f, ← all_behind) (sym k))

-- ---- a line that is found lies within
within : (fresh : Bool) (p q : ℕ) (l : List ℕ) → mark_in fresh p l ≡ Some q → q < p + length l
unfolding mark_in
within fresh p q [] e = let z : ◌≡◌ {A = ℕ} 0 1 = cc in absurd (omega arith)
within fresh p q (b ∷ l) e = go (fresh && marks (b ∷ l)) e (λ f. within (eqb b line_feed) (p + 1) q l f)
  where
    go : (v : Bool) → found v p (mark_in (eqb b line_feed) (p + 1) l) ≡ Some q
        → (mark_in (eqb b line_feed) (p + 1) l ≡ Some q → q < p + 1 + length l) → q < p + length (b ∷ l)
    go true f ih = let z : p ≡ q = cc in omega arith
    go false f ih = omega (arith, ih f)

pub mark-within : (s : List ℕ) (p : ℕ) → mark s ≡ Some p → p < length s
unfolding mark
mark-within s p e = omega (arith, within true 0 p s e)
