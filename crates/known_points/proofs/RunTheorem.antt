-- The known points of document 02, request 01, hold of the definitions: each side computes to the other, and of tokens of stars alone by their number.
-- Assumes nothing.
use Prim.Native.Nat.{ℕ, zero, suc, ◌+◌, ◌≤◌}
use mathlib.Core.Path.{◌≡◌, refl, sym, ap, ◌∙◌}
use mathlib.Core.List.{List, [], ◌∷◌}
use mathlib.Core.Bool.{Bool, true, false, and-false}
use native.Mathlib.Numerals.{add-two}
use native.Mathlib.Omega.{arith}
use lib.Dec.{leb}
use lib.ListN.{length, replicate, length-replicate}
use Rattle.numbers.specs.Limits.{token_limit}
use Rattle.numbers.specs.Signs.{asterisk}
use Rattle.numbers.specs.declared.Edition.TheVariants.{Reld}
use Rattle.std.specs.Prelude.{Ok}
use Rattle.pattern.specs.Patterns.{refusal}
use Rattle.pattern.specs.Runs.{squeezed, squeezed_past}
use Rattle.pattern.specs.Storing.{stored_byte, negated_from, negated, stored}
use Rattle.classes.specs.declared.Class.TheVariants.{Star}
use Rattle.storing.specs.Keeping.{kept, keep}
use Rattle.storing.proofs.Keeping.{glob-kept, keep-over, keep-star, keep-unquoted}
use Rattle.known_points.specs.RunPoints.{KeptRuns, RunPoints, StarsOnly, Unclosed}
use Rattle.known_points.proofs.Computing.{computing, keeping}

kept_runs : KeptRuns
unfolding keeping
kept_runs = record {
  supplied = refl;
  between = refl;
  bracket = refl;
  caret_first = refl;
  bracket_alone = refl;
  first_in_bracket = refl;
  two_runs = refl;
  escape = refl;
  accented = refl;
}

unclosed : Unclosed
unfolding keeping
unclosed = record { bracket = refl; behind = refl; caret = refl; run = refl; bytes_first = refl }

-- ---- stars alone
negated-stars : (b : Bool) (n : ℕ) → negated_from b (replicate n asterisk) ≡ replicate n asterisk
unfolding negated_from stored_byte
negated-stars b zero = refl
negated-stars true (suc n) = ap (◌∷◌ asterisk) (negated-stars false n)
negated-stars false (suc n) = ap (◌∷◌ asterisk) (negated-stars false n)

squeezed-stars : (n : ℕ) → squeezed_past Reld 0 true (replicate n asterisk) ≡ []
unfolding squeezed_past
squeezed-stars zero = refl
squeezed-stars (suc n) = squeezed-stars n

module _ (n : ℕ) where
  stars : List ℕ
  stars = asterisk ∷ asterisk ∷ replicate n asterisk

  length-stars : length stars ≡ n + 2
  unfolding stars
  length-stars = omega (arith, length-replicate n asterisk)

  stored-stars : stored Reld stars ≡ asterisk ∷ []
  unfolding stars stored negated squeezed squeezed_past negated_from stored_byte
  stored-stars = ap (◌∷◌ asterisk) (rw (negated-stars false n) (squeezed-stars n))

  kept-stars : length stars ≤ token_limit → keep Reld stars ≡ kept Star (asterisk ∷ [])
  unfolding stars keeping
  kept-stars h =
      keep-unquoted Reld stars h false (sym (and-false (leb 2 (length stars)))) refl
      ∙ keep-star Reld stars false refl refl Star refl refl
      ∙ glob-kept Reld Star stars (Ok tt) (sym (ap (refusal Reld) stored-stars)) tt refl
      ∙ ap (kept Star) stored-stars

stars_only : StarsOnly
unfolding keeping stars
stars_only = record {
  one = refl;
  several = λ n h. rw (add-two n) (kept-stars n (omega (arith, length-stars n)));
  too_many = λ n h. keep-over Reld (replicate n asterisk) (rw length-replicate h);
}

pub run-points : RunPoints
unfolding computing
run-points = search (kept_runs, stars_only, unclosed)
