-- Where the steps of a reading return, here and in `reading`: what a test decides of a step, and how it goes on at the cursor that was made. Assumes nothing.
use Prim.Native.Nat.{ℕ, ◌+◌, ◌-◌, ◌≤◌}
use mathlib.Core.Path.{◌≡◌, sym, ◌∙◌}
use mathlib.Core.List.{List}
use mathlib.Core.Bool.{Bool, true, false, cond}
use native.Mathlib.Omega.{arith}
use borrow.Author.Tests.{eq-eqb, ne_eqb, lt-ltb, le-ltb}
use mir.Syntax.{w64}
use mir.Val.{Fits}
use lib.Dec.{eqb}
use lib.ListN.{length, get_or}
use Rattle.numbers.specs.declared.Refusal.TheVariants as no
use Rattle.numbers.specs.Signs.{semicolon}
use Rattle.std.specs.Prelude.{Option, Some, None}
use Rattle.linker_script.specs.Finding.{first_from, is}
use Rattle.linker_script.proofs.Searches.{First, first_within}
use Rattle.reading_tokens.specs.Tokens.{name_end}
use Rattle.reading_cursors.specs.declared.Cursor.{Cursor}
use Rattle.reading_cursors.specs.declared.Event.{Event}
use Rattle.reading_cursors.specs.declared.Event.TheVariants.{Parent, Section}
use Rattle.reading_cursors.specs.declared.places.Place.{Place}
use Rattle.reading_cursors.specs.Moves.{Step, stepped, refused_at, moved, in_section}
use Rattle.reading_matchers.proofs.Stepping.{steps}
use Rattle.reading_cursors.specs.Places.{at_node}
use Rattle.reading_bodies.specs.Bodies.{name_to, parent_to, parent_at}

-- ---- a test decides
module _ (t : Bool) (x y r : Step) where
  pub taken : t ≡ true → r ≡ x → r ≡ cond t x y
  taken h e = rw h e

  pub left : t ≡ false → r ≡ y → r ≡ cond t x y
  left h e = rw h e

-- the byte b stands there; x is what `byte_at` answers
module _ (s : List ℕ) (p x b : ℕ) (e : x ≡ get_or s p 0) where
  pub byte_is : x ≡ b → eqb (get_or s p 0) b ≡ true
  byte_is k = rw (← e) (eq-eqb x b k)

  pub byte_not : (x ≡ b → ⊥) → eqb (get_or s p 0) b ≡ false
  byte_not k = rw (← e) (ne_eqb x b k)

-- ---- the cursor d that was made
pub goes : (a : Event) (c d : Cursor) → d ≡ c → stepped a d ≡ stepped a c
goes a c d e = rw e

-- m is c in another section
module _ (c m : Cursor) (n : ℕ) (e : m ≡ in_section c n) where
  pub goes-section : (d : Cursor) (place : Place) (p : ℕ) → d ≡ moved m place p → stepped (Section n) d ≡ stepped (Section n) (moved (in_section c n) place p)
  goes-section d place p q = rw (q, e)

  pub parent-section : (s : List ℕ) (p : ℕ) (r : Step) → r ≡ parent_at m s p → r ≡ parent_at (in_section c n) s p
  parent-section s p r q = rw (← e) q

-- ---- the name from p on, which ends at q
pub name-ends : (c : Cursor) (s : List ℕ) (p q : ℕ) (r : Step) → r ≡ name_to c p q → q ≡ name_end s p → r ≡ name_to c p (name_end s p)
name-ends c s p q r a e = rw (← e) a

-- ---- the parent text from p on; f is what `find` answers
module _ (c : Cursor) (s : List ℕ) (p : ℕ) (f : Option ℕ) (e : f ≡ first_from (is semicolon) s p) where
  pub no_parent : f ≡ None → (r : Step) → r ≡ refused_at no.Unreadable p → r ≡ parent_at c s p
  unfolding parent_at parent_to
  no_parent k r a = rw (← e, k) a

  module _ (q : ℕ) (k : f ≡ Some q) where
    pub parent-goes : (d : Cursor) → d ≡ moved c at_node (q + 1) → stepped (Parent p (q - p)) d ≡ parent_at c s p
    unfolding parent_at parent_to
    parent-goes d m = rw (← e, k, m)

    found : First (is semicolon) s p q
    found = first_within (sym e ∙ k)

    pub parent-long : p ≤ q
    parent-long = found.onward

    pub parent-fits : Fits w64 (length s) → Fits w64 (q + 1)
    parent-fits n = omega (arith, found.within)

-- a step that goes by bytes, words, limits and places, and what its calls ask: so one set answers every need of a function that reads one
pub ruleset ways = (steps, taken, left, byte_is, byte_not, eq-eqb, ne_eqb, lt-ltb, le-ltb, goes)
