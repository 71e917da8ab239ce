-- Whether a name is in an export list, as 01 has it under 'Ranking'. Assumes nothing.
use Rattle.std.specs.Prelude.{ℕ, Bool, true, false, cond, eqb, Option, Some, None, Result, Ok, Err}
use Rattle.std.specs.Result.{result_and}
use Rattle.numbers.specs.declared.Refusal.{Refusal}
use Rattle.numbers.specs.declared.Refusal.TheVariants as no
use Rattle.lists.specs.Each.{any}
use Rattle.book.specs.Books.{Book, book_frame, edition_of, export}
use Rattle.ranking.specs.Matching.{Name, line_matches}
use Rattle.ranking.specs.Names.{name_refusal}

-- "A name is in an export list exactly when some line matches."
unfoldable pub member_of : Book → Name → Bool
member_of w n = any (line_matches (edition_of (book_frame w)) n) w.lines

-- "export query … on a version book" is 13; "Order: 14, 13, … 1, 9"
unfoldable pub contains_asked : Option Book → Name → Result Bool Refusal
contains_asked None n = Err no.NoBook
contains_asked (Some w) n = cond (eqb w.kind export) (result_and (name_refusal n false) (Ok (member_of w n))) (Err no.WrongKind)

-- the value of these answers; their number is `refusal_of`
abbrev pub membership_value : Result Bool Refusal → ℕ
membership_value (Ok true) = 1
membership_value (Ok false) = 0
membership_value (Err e) = 0
