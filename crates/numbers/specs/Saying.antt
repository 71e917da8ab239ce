-- 01's number of a refusal that is told by its name, and the refusal of a number. Assumes nothing.
use Rattle.std.specs.Prelude.{ℕ, ◌≡◌, Result, Ok, Err, MatchResult}
use Rattle.numbers.specs.declared.NoRefusal.{NoRefusal}
use Rattle.numbers.specs.declared.Refusal.{Refusal}
use Rattle.numbers.specs.declared.Refusal.TheVariants as no
use Rattle.numbers.specs.Refusals.{too_long, unreadable, unclosed, bad_extern, glob_not_utf8, bad_pattern, unknown_parent, no_room, name_not_utf8}
use Rattle.numbers.specs.Refusals.{unknown_version, no_such, nothing_to_undo, wrong_kind, no_book}

abbrev pub number : Refusal → ℕ
number no.TooLong = too_long
number no.Unreadable = unreadable
number no.Unclosed = unclosed
number no.BadExtern = bad_extern
number no.GlobNotUtf8 = glob_not_utf8
number no.BadPattern = bad_pattern
number no.UnknownParent = unknown_parent
number no.NoRoom = no_room
number no.NameNotUtf8 = name_not_utf8
number no.UnknownVersion = unknown_version
number no.NoSuch = no_such
number no.NothingToUndo = nothing_to_undo
number no.WrongKind = wrong_kind
number no.NoBook = no_book

-- the number of an answer: that of its refusal, or 0 where it is done
abbrev pub refusal_of : {A : Type 0} → Result A Refusal → ℕ
refusal_of (Ok x) = 0
refusal_of (Err e) = number e

-- the refusal that has the number, or that none has it
abbrev pub Tells : ℕ → Result Refusal NoRefusal → Type 0
Tells n r = MatchResult r (λ no. number no ≡ n) (λ e. (e.0 ≡ n) × ((no : Refusal) → number no ≡ n → ⊥))
