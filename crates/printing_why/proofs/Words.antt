-- The words for a class, a section and a language: how long they are. Assumes nothing.
use Prim.Native.Nat.{ℕ, ◌≤◌}
use mathlib.Core.Bool.{Bool, true, false, cond}
use native.Mathlib.Omega.{arith}
use lib.Dec.{eqb}
use lib.ListN.{length}
use Rattle.numbers.specs.Classes.{escaped_class, exact_class, nonstar_class, star_class}
use Rattle.numbers.specs.Marks.{general, global}
use Rattle.lists.specs.Texts.{codes}
use Rattle.printing_why.specs.WhyLine.{class_word, language_word, section_word}

pub few-class : (k : ℕ) → length (class_word k) ≤ 7
unfolding class_word codes
few-class k = few (eqb k exact_class) (eqb k escaped_class) (eqb k nonstar_class) (eqb k star_class)
  where
    few : (a b c d : Bool)
        → length (cond a (codes "Exact") (cond b (codes "Escaped") (cond c (codes "NonStar") (cond d (codes "Star") (codes "All"))))) ≤ 7
    few true b c d = omega arith
    few false true c d = omega arith
    few false false true d = omega arith
    few false false false true = omega arith
    few false false false false = omega arith

pub few-section : (k : ℕ) → length (section_word k) ≤ 6
unfolding section_word codes
few-section k = few (eqb k global)
  where
    few : (a : Bool) → length (cond a (codes "global") (codes "local")) ≤ 6
    few true = omega arith
    few false = omega arith

pub few-language : (k : ℕ) → length (language_word k) ≤ 7
unfolding language_word codes
few-language k = few (eqb k general)
  where
    few : (a : Bool) → length (cond a (codes "general") (codes "C++")) ≤ 7
    few true = omega arith
    few false = omega arith
