-- Whether a line matches, from its code and its bytes. The premises are what the code has learned: m is whether the line is struck. Assumes nothing.
use Prim.Native.Nat.{ℕ}
use mathlib.Core.Path.{◌≡◌}
use mathlib.Core.List.{List}
use mathlib.Core.Bool.{Bool, true, false}
use borrow.Author.Tests.{eq-eqb, ne_eqb}
use Rattle.numbers.specs.Marks.{cxx}
use Rattle.numbers.specs.declared.Edition.{Edition}
use Rattle.book.specs.Layout.{class_in, has_mark, language_in, line_of}
use Rattle.book.proofs.Forms.{stands_unmarked}
use Rattle.ranking.specs.Matching.{class_matches, line_matches, name_of, seen}

module _ (e : Edition) (code : ℕ) (bs raw demangled : List ℕ) (m : Bool) (h : m ≡ has_mark code) where
  pub match_struck : m ≡ true → false ≡ line_matches e (name_of raw demangled) (line_of 0 code bs)
  unfolding line_matches
  match_struck t = rw (stands_unmarked 0 code bs, ← h, t)

  module _ (f : m ≡ false) (class : ℕ) (k : class ≡ class_in code) (language : ℕ) (l : language ≡ language_in code) (r : Bool) where
    pub match_demangled : language ≡ cxx → r ≡ class_matches e class bs demangled → r ≡ line_matches e (name_of raw demangled) (line_of 0 code bs)
    unfolding line_matches seen
    match_demangled y q = rw (stands_unmarked 0 code bs, ← h, f, ← k, ← l, eq-eqb language cxx y) q

    pub match_raw : (language ≡ cxx → ⊥) → r ≡ class_matches e class bs raw → r ≡ line_matches e (name_of raw demangled) (line_of 0 code bs)
    unfolding line_matches seen
    match_raw y q = rw (stands_unmarked 0 code bs, ← h, f, ← k, ← l, ne_eqb language cxx y) q
