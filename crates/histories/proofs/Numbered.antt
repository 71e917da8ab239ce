-- No token and no reading is refused with 0, which is the number of what is done. Assumes nothing.
use Prim.Native.Nat.{ℕ}
use mathlib.Core.Path.{◌≡◌, sym}
use mathlib.Core.List.{List}
use mathlib.Core.Bool.{Bool, true, false, cond, true≢false}
use native.Mathlib.Omega.{arith}
use Rattle.numbers.specs.Limits.{over, token_limit}
use Rattle.numbers.specs.declared.Edition.{Edition}
use Rattle.pattern.specs.Patterns.{refusal}
use Rattle.pattern.specs.Storing.{stored}
use Rattle.classes.specs.declared.Class.{Class}
use Rattle.classes.specs.declared.Class.TheVariants.{Exact, Escaped, NonStar, Star, All}
use Rattle.classes.specs.Classes.{class_of}
use Rattle.std.specs.Prelude.{Result, Ok, Err}
use Rattle.numbers.specs.declared.Refusal.{Refusal}
use Rattle.numbers.specs.declared.Refusal.TheVariants as no
use Rattle.numbers.specs.Saying.{number}
use Rattle.storing.specs.Keeping.{Keep, kept, refused, inside_kept, keep, keep_as, keep_glob, keep_when}
use Rattle.reading.proofs.Refusals.{of_reader}

-- ---- no refusal has the number 0
number-some : (n : Refusal) → number n ≡ 0 → ⊥
number-some no.TooLong h = omega arith
number-some no.Unreadable h = omega arith
number-some no.Unclosed h = omega arith
number-some no.BadExtern h = omega arith
number-some no.GlobNotUtf8 h = omega arith
number-some no.BadPattern h = omega arith
number-some no.UnknownParent h = omega arith
number-some no.NoRoom h = omega arith
number-some no.NameNotUtf8 h = omega arith
number-some no.UnknownVersion h = omega arith
number-some no.NoSuch h = omega arith
number-some no.NothingToUndo h = omega arith
number-some no.WrongKind h = omega arith
number-some no.NoBook h = omega arith

-- ---- no token is refused with 0
abbrev pub Numbered : Keep → Type 0
Numbered (kept k bs) = Unit {0}
Numbered (refused n) = number n ≡ 0 → ⊥

glob-numbered : (e : Edition) (k : Class) (t : List ℕ) → Numbered (keep_glob e k t)
unfolding keep_glob keep_when
glob-numbered e k t = go (refusal e (stored e t))
  where
    go : (x : Result (Unit {0}) Refusal) → Numbered (keep_when x k (stored e t))
    go (Ok u) = tt
    go (Err n) = number-some n

as_numbered : (e : Edition) (k : Class) (t : List ℕ) → Numbered (keep_as e k t)
unfolding keep_as
as_numbered e Exact t = tt
as_numbered e Escaped t = tt
as_numbered e NonStar t = glob-numbered e NonStar t
as_numbered e Star t = glob-numbered e Star t
as_numbered e All t = tt

pub keep-numbered : (e : Edition) (t : List ℕ) → Numbered (keep e t)
unfolding keep
keep-numbered e t = go (over token_limit t)
  where
    go : (x : Bool) → Numbered (cond x (refused no.TooLong) (keep_as e (class_of t) (inside_kept t)))
    go true = λ h. omega arith
    go false = as_numbered e (class_of t) (inside_kept t)

-- ---- nor is a reading
pub reader_numbered : (n : ℕ) → of_reader n ≡ true → n ≡ 0 → ⊥
reader_numbered n e z = true≢false (sym (rw z at e))
