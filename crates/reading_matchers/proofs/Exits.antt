-- What the functions of src/lib.rt answer of a token, by what they learned of its end, and where they leave the reading. Assumes nothing.
use Prim.Native.Nat.{ℕ, ◌+◌}
use mathlib.Core.Path.{◌≡◌, sym, ◌∙◌}
use mathlib.Core.List.{List}
use native.Mathlib.Omega.{arith}
use borrow.Author.Tests.{eq-eqb, ne_eqb}
use lib.ListN.{length, get_or}
use Rattle.std.specs.Prelude.{Result, Ok, Err}
use Rattle.numbers.specs.Signs.{semicolon}
use Rattle.reading_tokens.specs.Tokens.{TokenEnd, to_semicolon, to_either, bare_extern_end, bare_end, bare_skip}
use Rattle.reading_cursors.specs.declared.Cursor.{Cursor}
use Rattle.reading_cursors.specs.declared.places.Place.{Place}
use Rattle.reading_cursors.specs.declared.Event.{Event}
use Rattle.reading_cursors.specs.declared.RefusedAt.{RefusedAt}
use Rattle.reading_cursors.specs.Moves.{Step, stepped, edition_at, moved, in_language, or_unclosed, skip_at}
use Rattle.reading_matchers.proofs.Stepping.{skip-open, skip-goes}
use Rattle.reading_matchers.specs.Matchers.{past_semicolon, line, line_to, token_end, extern_inside, bare_line}

-- ---- "take a `;` if there": x is the byte at p
module _ (s : List ℕ) (p x : ℕ) (e : x ≡ get_or s p 0) where
  pub semicolon-taken : x ≡ semicolon → p + 1 ≡ past_semicolon s p
  semicolon-taken k = rw (← e, eq-eqb x semicolon k)

  pub semicolon_not_there : (x ≡ semicolon → ⊥) → p ≡ past_semicolon s p
  semicolon_not_there k = rw (← e, ne_eqb x semicolon k)

-- ---- a token at p with the end x
-- g is what `token_end` answers
ended : (p q : ℕ) (x : TokenEnd) → token_end p x ≡ Ok q → x ≡ Ok q
ended p q (Ok n) h = let z : n ≡ q = cc in rw z
ended p q (Err n) h = let z : ◌≡◌ {A = ℕ} 0 1 = cc in absurd (omega arith)

module _ (c : Cursor) (s : List ℕ) (place : Place) (p : ℕ) (x : TokenEnd) (g : Result ℕ RefusedAt) (j : g ≡ token_end p x) where
  pub line_refused : (o : RefusedAt) → g ≡ Err o → Err o ≡ line_to c s place p x
  unfolding line_to
  line_refused o k = go x (sym j ∙ k)
    where
      go : (y : TokenEnd) → token_end p y ≡ Err o → Err o ≡ line_to c s place p y
      go (Ok q) h = let z : ◌≡◌ {A = ℕ} 0 1 = cc in absurd (omega arith)
      go (Err n) h = let z : o ≡ record { refusal = n; place = p } = cc in rw z

  module _ (q : ℕ) (i : g ≡ Ok q) (f : Result ℕ RefusedAt) (e : f ≡ or_unclosed (skip_at c s q)) where
    token_ends : x ≡ Ok q
    token_ends = ended p q x (sym j ∙ i)

    pub line-open : (o : RefusedAt) → f ≡ Err o → Err o ≡ line_to c s place p x
    unfolding line_to
    line-open o h = rw token_ends (skip-open c s q _ f e o h)

    pub line-goes :
        (r : ℕ) → f ≡ Ok r → (l : Event) → l ≡ line c s p q → (m : ℕ) → m ≡ past_semicolon s r → (d : Cursor) → d ≡ moved c place m → stepped l d ≡ line_to c s place p x
    unfolding line_to
    line-goes r h l a m b d g = rw token_ends (skip-goes c s q _ f e r h (stepped l d) (rw (a, g, b)))

-- the token of a text without semicolon; b is where the skip starts
module _ (c : Cursor) (s : List ℕ) (place : Place) (x : TokenEnd) (v : Result ℕ RefusedAt) (j : v ≡ token_end 0 x) where
  pub bare-refused : (o : RefusedAt) → v ≡ Err o → Err o ≡ bare_line c s place x
  unfolding bare_line
  bare-refused o k = go x (sym j ∙ k)
    where
      go : (y : TokenEnd) → token_end 0 y ≡ Err o → Err o ≡ bare_line c s place y
      go (Ok q) h = let z : ◌≡◌ {A = ℕ} 0 1 = cc in absurd (omega arith)
      go (Err n) h = let z : o ≡ record { refusal = n; place = 0 } = cc in rw z

  module _ (q : ℕ) (i : v ≡ Ok q) (b : ℕ) (g : b ≡ bare_skip (edition_at c) s) (f : Result ℕ RefusedAt) (e : f ≡ or_unclosed (skip_at c s b)) where
    bare_ends : x ≡ Ok q
    bare_ends = ended 0 q x (sym j ∙ i)

    pub bare-open : (o : RefusedAt) → f ≡ Err o → Err o ≡ bare_line c s place x
    unfolding bare_line
    bare-open o h = rw (bare_ends, ← g) (skip-open c s b _ f e o h)

    pub bare-goes : (r : ℕ) → f ≡ Ok r → (l : Event) → l ≡ line c s 0 q → (d : Cursor) → d ≡ moved c place (length s + 1) → stepped l d ≡ bare_line c s place x
    unfolding bare_line
    bare-goes r h l a d m = rw (bare_ends, ← g) (skip-goes c s b _ f e r h (stepped l d) (rw (a, m)))

-- ---- where x is the end that a function answers
module _ (c : Cursor) (s : List ℕ) (place : Place) (x : TokenEnd) (r : Step) where
  module _ (p : ℕ) where
    pub line_with : r ≡ line_to c s place p x → x ≡ to_semicolon (edition_at c) s p → r ≡ line_to c s place p (to_semicolon (edition_at c) s p)
    line_with a e = rw (← e) a

    module _ (a : r ≡ extern_inside c s place p x) where
      pub inside_with : x ≡ to_either (edition_at c) s p → r ≡ extern_inside c s place p (to_either (edition_at c) s p)
      inside_with e = rw (← e) a

      pub inside_bare_with : x ≡ bare_extern_end (edition_at c) s p → r ≡ extern_inside c s place p (bare_extern_end (edition_at c) s p)
      inside_bare_with e = rw (← e) a

  pub bare_with : r ≡ bare_line c s place x → x ≡ bare_end (edition_at c) s → r ≡ bare_line c s place (bare_end (edition_at c) s)
  bare_with a e = rw (← e) a

-- ---- where the next cursor n is made in two moves
pub go-in_language : (e : Event) (c d n : Cursor) (language : ℕ) (place : Place) (p : ℕ) → n ≡ moved d place p → d ≡ in_language c language → stepped e n ≡ stepped e (moved (in_language c language) place p)
go-in_language e c d n language place p a b = rw (a, b)
