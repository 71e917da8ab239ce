-- What a test of the code decides of the character at a place, for the functions that read it test by test. Assumes nothing.
use Prim.Native.Nat.{ℕ}
use mathlib.Core.Path.{◌≡◌}
use mathlib.Core.Bool.{Bool, true, false, not, cond, ◌&&◌}
use borrow.Author.Tests.{not-true, not-false, le-leb, lt-leb, lt-ltb, le-ltb}
use Rattle.lists.specs.Pieces.{Piece}
use Rattle.utf8.specs.Utf8.{none, when}
use Rattle.utf8.specs.At.{placed}
use Rattle.utf8.specs.declared.Character.{Character}

module _ (at : ℕ) (r : Character) (t : Bool) (p : Piece ℕ) where
  pub refused : r ≡ placed at none → t ≡ false → r ≡ placed at (when t p)
  unfolding when
  refused e h = rw h e

  pub passed : r ≡ placed at p → t ≡ true → r ≡ placed at (when t p)
  unfolding when
  passed e h = rw h e

  pub taken : (q : Piece ℕ) → r ≡ placed at p → t ≡ true → r ≡ placed at (cond t p q)
  taken q e h = rw h e

  pub left : (q : Piece ℕ) → r ≡ placed at q → t ≡ false → r ≡ placed at (cond t p q)
  left q e h = rw h e

-- b is what a function answers of t, and the code asks whether it is not
pub fails : (b t : Bool) → b ≡ t → not b ≡ true → t ≡ false
fails b t e h = rw (← e) (not-true b h)

pub holds : (b t : Bool) → b ≡ t → not b ≡ false → t ≡ true
holds b t e h = rw (← e) (not-false b h)

-- of two tests
pub both_hold : (t u : Bool) → t ≡ true → u ≡ true → (t && u) ≡ true
both_hold t u g h = rw g h

pub first_fails : (t u : Bool) → t ≡ false → (t && u) ≡ false
first_fails t u h = rw h

pub second-fails : (t u : Bool) → t ≡ true → u ≡ false → (t && u) ≡ false
second-fails t u g h = rw g h

-- for a function that refuses where a test fails, and for one that goes by the first byte
pub ruleset tests = (refused, passed, fails, holds, both_hold, first_fails, second-fails, le-leb, lt-leb)

pub ruleset ways = (taken, left, lt-ltb, le-ltb)
