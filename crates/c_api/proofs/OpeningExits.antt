-- The exits of the openings (src/lib.rt). l is the counts that were lent, b the buffers, s the text; l' and b' are what is left of them. The premises are
-- what the code learned. Assumes nothing.
use Prim.Native.Nat.{ℕ, ◌+◌, ◌*◌, ◌≤◌}
use mathlib.Core.Path.{◌≡◌, refl, ◌∙◌}
use mathlib.Core.List.{List}
use mathlib.Core.Bool.{Bool, true, false, cond}
use native.Mathlib.Omega.{arith}
use borrow.Author.Tests.{eq-eqb, ne_eqb, ltb-false}
use lib.Dec.{ltb}
use lib.ListN.{length}
use Rattle.numbers.specs.Limits.{script_limit}
use Rattle.numbers.specs.Refusals.{no_room, too_long}
use Rattle.packing.specs.Padding.{zeros}
use Rattle.book.specs.Layout.{Buffers, five}
use Rattle.book_opening.specs.declared.How.{How}
use Rattle.book_opening.specs.declared.Opened.{Opened}
use Rattle.book_opening.specs.Opening.{Opening, cleared, declined, left, opening, opens, told}
use Rattle.book_opening.proofs.RefusalPlaces.{opening-refuses-within}
use Rattle.c_lending.specs.Calls.{Opens, counts_left, counts_put, counts_row, opening_told, opening_with}

-- what is told of an opening o, with r answered
abbrev Tells : List ℕ → Buffers → Opening → ℕ → List ℕ → Buffers → Type 0
Tells l b o r l' b' = (r ≡ opening_told o) × (l' ≡ counts_left l o) × (b' ≡ left b o)

module _ (how : How) (l : List ℕ) (b : Buffers) (s : List ℕ) where
  -- ---- counts that are not six numbers: all is cleared
  pub uncounted : (length l ≡ 6 → ⊥) → (r : ℕ) (l' : List ℕ) (b' : Buffers) → r ≡ cond (ltb script_limit (length s)) too_long no_room
      → l' ≡ zeros (length l) → b' ≡ cleared b → Opens how l b s r l' b'
  unfolding Opens opening_with opening_told told counts_left left
  uncounted h r l' b' x y z = rw (ne_eqb (length l) 6 h) (go (ltb script_limit (length s)) x)
    where
      go : (t : Bool) → r ≡ cond t too_long no_room → Tells l b (cond t (declined too_long 0) (declined no_room 0)) r l' b'
      go true x = (x, y, z)
      go false x = (x, y, z)

  -- ---- six numbers: the text is opened, and a is what the opening answers
  six_opens : length l ≡ 6 → opening_with how l b s ≡ opening how b s
  unfolding opening_with opening
  six_opens k = rw (eq-eqb (length l) 6 k) (go (ltb script_limit (length s)) _ _)
    where
      go : (t : Bool) (x y : Opening) → cond t x (cond t x y) ≡ cond t x y
      go true x y = refl
      go false x y = refl

  module _ (a : Opened) (e : a ≡ told (opening how b s)) where
    -- its place is one of a text that is not too long
    pub place-few : a.place ≤ script_limit
    unfolding told opening
    place-few = rw e (go (ltb script_limit (length s)) refl)
      where
        few : (o : Opening) → length s ≤ script_limit → opening how b s ≡ o → (told o).place ≤ script_limit
        few (opens w) h z = omega arith
        few (declined n p) h z = omega (arith, opening-refuses-within s how b n p z)

        go : (t : Bool) → ltb script_limit (length s) ≡ t → (told (opening how b s)).place ≤ script_limit
        go true z = rw z (omega arith)
        go false z = few (opening how b s) (ltb-false script_limit (length s) z) refl

    pub opening-done : length l ≡ 6 → (r : ℕ) (l' : List ℕ) (b' : Buffers) → r ≡ a.refusal + 256 * a.place → l' ≡ counts_put l a.counts
        → b' ≡ left b (opening how b s) → Opens how l b s r l' b'
    unfolding Opens told opening_told counts_left
    opening-done k r l' b' x y z = rw (six_opens k) (go (opening how b s) (rw e at x) (rw (e, eq-eqb (length l) 6 k) at y) z)
      where
        go : (o : Opening) → r ≡ (told o).refusal + 256 * (told o).place → l' ≡ counts_row (told o).counts → b' ≡ left b o → Tells l b o r l' b'
        go (opens w) x y z = (x, y, z)
        go (declined n p) x y z = (x, y ∙ rw k, z)

-- ---- every buffer is cleared
pub all_cleared : (l n m k p j l' n' m' k' p' j' : List ℕ) → l' ≡ zeros (length l) → n' ≡ zeros (length n) → m' ≡ zeros (length m) → k' ≡ zeros (length k)
    → p' ≡ zeros (length p) → j' ≡ zeros (length j) → (l' ≡ zeros (length l)) × (five n' m' k' p' j' ≡ cleared (five n m k p j))
unfolding cleared
all_cleared l n m k p j l' n' m' k' p' j' a b c d e f = (a, rw (b, c, d, e, f))
