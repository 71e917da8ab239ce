-- The first line that passes a test, row by row; and what the two tests of the Rust kind ask of a row. Assumes nothing.
use Prim.Native.Nat.{ℕ, ◌+◌, ◌*◌, ◌≤◌, ◌<◌}
use mathlib.Core.Path.{◌≡◌, refl, sym, ap, ◌∙◌}
use mathlib.Core.List.{List, [], ◌∷◌}
use mathlib.Core.Bool.{Bool, true, false, cond, ◌||◌, and-false}
use Rattle.std.specs.Prelude.{Some, None, is_some}
use native.Mathlib.Numerals.{add-one}
use native.Mathlib.Omega.{arith}
use borrow.Author.Tests.{eq-eqb, ne_eqb}
use lib.ListN.{drop, get_or, drop_of_length-le}
use lib.Seq.{drop-cons}
use Rattle.numbers.specs.Marks.{global}
use Rattle.lists.specs.Each.{any}
use Rattle.lists.specs.Same.{same}
use Rattle.packing.specs.Tables.{packs, things}
use Rattle.book.specs.declared.Frame.{Frame}
use Rattle.book.specs.Books.{Line, no_line}
use Rattle.book.specs.Edits.{line_at}
use Rattle.book.specs.Layout.{LineLies, bytes_of_line, line_form, line_of, line_width, section_in}
use Rattle.book.specs.Sanity.{bare_star, line_ok}
use Rattle.book.proofs.LineRows.{Walk, row_line, walk-count, walk_on, walk-row, walk-starts}
use Rattle.ranking.specs.Walk.{first_line}
use Rattle.lookups.proofs.Decided.{row-section}
use Rattle.lookups.specs.Lookups.{listed_as}

-- there is one where some line passes
pub first_any : (t : Line → Bool) (i : ℕ) (ls : List Line) → is_some (first_line t i ls) ≡ any t ls
unfolding first_line any
first_any t i [] = refl
first_any t i (x ∷ ls) = go (t x) (first_any t (i + 1) ls)
  where
    go : (b : Bool) → is_some (first_line t (i + 1) ls) ≡ any t ls → is_some (cond b (Some i) (first_line t (i + 1) ls)) ≡ b || any t ls
    go true e = refl
    go false e = e

-- the search goes on at line i, of n
pub record Firsts (t : Line → Bool) (n : ℕ) (l m : List ℕ) (i : ℕ) : Type 0 where
  pub frame : Frame
  pub end : ℕ
  pub walk : Walk frame n end l m i
  pub goes : first_line t 0 (things line_form n l m) ≡ first_line t i (drop i (things line_form n l m))

module _ {t : Line → Bool} {n : ℕ} {l m : List ℕ} where
  pub firsts_starts : (frame : Frame) (p : ℕ) → packs line_form (line_ok frame) n p l m ≡ true → Firsts t n l m 0
  firsts_starts frame p g = record { frame = frame; end = p; walk = walk-starts g; goes = refl }

  module _ {i : ℕ} (z : Firsts t n l m i) where
    module _ (h : i < n) where
      pub firsts_lies : LineLies l m i
      firsts_lies = (walk-row z.walk h).lies

      -- line i passes
      pub firsts_here : t (line_at (things line_form n l m) i) ≡ true → Some i ≡ first_line t 0 (things line_form n l m)
      unfolding first_line
      firsts_here y = sym (rw (z.goes, drop-cons (things line_form n l m) i no_line (omega (arith, walk-count z.walk)), y))

      -- it does not
      pub firsts_on : t (line_at (things line_form n l m) i) ≡ false → Firsts t n l m (i + 1)
      unfolding first_line
      firsts_on y = record {
        frame = z.frame;
        end = z.end;
        walk = walk_on z.walk h;
        goes = z.goes ∙ rw (drop-cons (things line_form n l m) i no_line (omega (arith, walk-count z.walk)), y, add-one);
      }

    -- none does
    pub firsts_none : n ≤ i → None ≡ first_line t 0 (things line_form n l m)
    unfolding first_line
    firsts_none h = sym (rw (z.goes, drop_of_length-le (things line_form n l m) {i = i} (omega (arith, walk-count z.walk))))

-- ---- a listed line: its section is that of its code
module _ (t : List ℕ) {n : ℕ} {l m : List ℕ} {i : ℕ} (z : Firsts (listed_as t) n l m i) (h : i < n) {section : ℕ}
    (s : section ≡ section_in (get_or l (line_width * i + 1) 0)) where
  section_is : section ≡ (line_at (things line_form n l m) i).section
  section_is = s ∙ row-section (walk-row z.walk h)

  pub listed-local : (section ≡ global → ⊥) → Firsts (listed_as t) n l m (i + 1)
  unfolding listed_as
  listed-local y = firsts_on z h (rw (ne_eqb _ _ (λ k. y (section_is ∙ k))))

  module _ {bs : List ℕ} (b : bs ≡ bytes_of_line l m i) {r : Bool} (e : r ≡ same bs t) where
    asked : r ≡ same (line_at (things line_form n l m) i).bytes t
    asked = e ∙ ap (λ (u : List ℕ). same u t) (b ∙ (walk-row z.walk h).bytes)

    pub listed_here : section ≡ global → r ≡ true → Some i ≡ first_line (listed_as t) 0 (things line_form n l m)
    unfolding listed_as
    listed_here y k = firsts_here z h (rw (eq-eqb _ _ (sym section_is ∙ y), ← asked, k))

    pub listed_other : r ≡ false → Firsts (listed_as t) n l m (i + 1)
    unfolding listed_as
    listed_other k = firsts_on z h (simp (← asked, k, and-false))

-- ---- a general local All line: by its code
module _ {n : ℕ} {l m : List ℕ} {i : ℕ} (z : Firsts bare_star n l m i) (h : i < n) {r : Bool}
    (e : r ≡ bare_star (line_of 0 (get_or l (line_width * i + 1) 0) [])) where
  starred : r ≡ bare_star (line_at (things line_form n l m) i)
  unfolding bare_star
  starred = e ∙ ap bare_star (row_line (walk-row z.walk h))

  pub star_here : r ≡ true → Some i ≡ first_line bare_star 0 (things line_form n l m)
  star_here k = firsts_here z h (sym starred ∙ k)

  pub star_other : r ≡ false → Firsts bare_star n l m (i + 1)
  star_other k = firsts_on z h (sym starred ∙ k)
