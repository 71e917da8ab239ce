-- What is kept of a token is as a book's line asks: a kept glob stands, All has no bytes, and no line is longer than a token may be. Assumes
-- nothing.
use Prim.Native.Nat.{ℕ, ◌≤◌, ◌<◌}
use mathlib.Core.Path.{◌≡◌, refl, ap}
use mathlib.Core.List.{List}
use mathlib.Core.Bool.{Bool, true, false, cond, not, ◌||◌}
use native.Mathlib.Omega.{arith}
use borrow.Author.Tests.{eq-eqb, le-leb, lt-ltb}
use lib.Dec.{eqb}
use lib.ListN.{length}
use Rattle.numbers.specs.Classes.{all_class, nonstar_class, star_class}
use Rattle.numbers.specs.Limits.{over, script_limit, token_limit}
use Rattle.numbers.specs.Marks.{cxx, local}
use Rattle.lists.proofs.SameLaws.{same_refl}
use Rattle.std.specs.Prelude.{Result, Ok, Err}
use Rattle.numbers.specs.declared.Refusal.{Refusal}
use Rattle.numbers.specs.declared.Refusal.TheVariants as no
use Rattle.numbers.specs.declared.Edition.{Edition}
use Rattle.pattern.specs.Patterns.{refusal}
use Rattle.pattern.specs.Storing.{stored}
use Rattle.pattern.proofs.Stored.{stored-twice}
use Rattle.classes.specs.declared.Class.{Class}
use Rattle.classes.specs.declared.Class.TheVariants.{Exact, Escaped, NonStar, Star, All}
use Rattle.classes.specs.Classes.{class_number, class_of}
use Rattle.classes.proofs.ClassNumbers.{class-few}
use Rattle.storing.specs.Keeping.{Keep, kept, refused, inside_kept, keep, keep_as, keep_glob, keep_when}
use Rattle.storing.proofs.Keeping.{bytes, keep-few}
use Rattle.book.specs.Books.{edition_of, frame_with, new_line, regular, with_offset}
use Rattle.book.specs.Sanity.{content_good, glob_stands, in_range, kind_allows, line_ok, offset_good}

-- ---- what is kept, by its class
abbrev Fine : Edition → Class → List ℕ → Type 0
Fine e Exact bs = Unit {0}
Fine e Escaped bs = Unit {0}
Fine e NonStar bs = glob_stands e bs ≡ true
Fine e Star bs = glob_stands e bs ≡ true
Fine e All bs = length bs ≡ 0

abbrev KeptFine : Edition → Keep → Type 0
KeptFine e (kept k bs) = Fine e k bs
KeptFine e (refused n) = Unit {0}

glob-fine : (e : Edition) (t : List ℕ) (u : Unit {0}) → refusal e (stored e t) ≡ Ok u → glob_stands e (stored e t) ≡ true
unfolding glob_stands
glob-fine e t u h = rw (h, stored-twice e t) (same_refl (stored e t))

when-fine : (e : Edition) (k : Class) (t : List ℕ) → ((u : Unit {0}) → refusal e (stored e t) ≡ Ok u → Fine e k (stored e t)) → KeptFine e (keep_glob e k t)
unfolding keep_glob keep_when
when-fine e k t f = go (refusal e (stored e t)) refl
  where
    go : (x : Result (Unit {0}) Refusal) → refusal e (stored e t) ≡ x → KeptFine e (keep_when x k (stored e t))
    go (Ok u) h = f u h
    go (Err n) h = tt

as_fine : (e : Edition) (k : Class) (t : List ℕ) → KeptFine e (keep_as e k t)
unfolding keep_as
as_fine e Exact t = tt
as_fine e Escaped t = tt
as_fine e NonStar t = when-fine e NonStar t (glob-fine e t)
as_fine e Star t = when-fine e Star t (glob-fine e t)
as_fine e All t = refl

keep-fine : (e : Edition) (t : List ℕ) → KeptFine e (keep e t)
unfolding keep
keep-fine e t = go (over token_limit t)
  where
    go : (x : Bool) → KeptFine e (cond x (refused no.TooLong) (keep_as e (class_of t) (inside_kept t)))
    go true = tt
    go false = as_fine e (class_of t) (inside_kept t)

-- ---- a line of what is kept
-- in a Regular book
module _ (nodes : ℕ) (t : List ℕ) (k : Class) (bs : List ℕ) (h : keep (edition_of (frame_with regular nodes)) t ≡ kept k bs) where
  pub kept-few : length bs ≤ token_limit
  kept-few = omega (arith, keep-few (edition_of (frame_with regular nodes)) t, ap (λ (x : Keep). length (bytes x)) h)

  kept_fine : Fine (edition_of (frame_with regular nodes)) k bs
  kept_fine = rw h at (keep-fine (edition_of (frame_with regular nodes)) t)

  all_empty : (j : Class) → Fine (edition_of (frame_with regular nodes)) j bs → (not (eqb (class_number j) all_class) || eqb (length bs) 0) ≡ true
  all_empty Exact f = refl
  all_empty Escaped f = refl
  all_empty NonStar f = refl
  all_empty Star f = refl
  all_empty All f = eq-eqb (length bs) 0 f

  globs_stand : (j : Class) → Fine (edition_of (frame_with regular nodes)) j bs → (not (eqb (class_number j) nonstar_class || eqb (class_number j) star_class) || glob_stands (edition_of (frame_with regular nodes)) bs) ≡ true
  globs_stand Exact f = refl
  globs_stand Escaped f = refl
  globs_stand NonStar f = f
  globs_stand Star f = f
  globs_stand All f = refl

  pub kept_line : (node section language offset : ℕ) → node < nodes → section ≤ local → language ≤ cxx → offset ≤ script_limit
      → line_ok (frame_with regular nodes) (with_offset offset (new_line node section language (class_number k) bs)) ≡ true
  unfolding line_ok in_range offset_good kind_allows content_good
  kept_line node section language offset a b c d =
      rw (
        lt-ltb node nodes a,
        le-leb (class_number k) all_class (class-few k),
        le-leb section local b,
        le-leb language cxx c,
        le-leb (length bs) token_limit kept-few,
        le-leb offset script_limit d,
        all_empty k kept_fine,
      )
      (globs_stand k kept_fine)
