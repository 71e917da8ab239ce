-- Request 03, "Why this version?": from a book and a name "the deciding line's number, class, node, section, language and offset, or that no line matches".
-- Assumes nothing.
use Rattle.std.specs.Prelude.{ℕ, List, [], ◌∷◌, Bool, true, false, cond, ◌&&◌, eqb, Option, Some, None, Result, Ok, Err}
use Rattle.std.specs.Result.{result_and}
use Rattle.numbers.specs.declared.Refusal.{Refusal}
use Rattle.numbers.specs.declared.Refusal.TheVariants as no
use Rattle.book.specs.Books.{Line, Book, export, rust}
use Rattle.book.specs.Edits.{line_at}
use Rattle.book.specs.Sanity.{bare_star}
use Rattle.ranking.specs.Matching.{Name}
use Rattle.ranking.specs.Names.{name_refusal}
use Rattle.ranking.specs.Walk.{deciding, first_line, or_else}
use Rattle.lookups.specs.declared.index.VersionIndex.{VersionIndex}
use Rattle.lookups.specs.Lookups.{listed_as, long_wanted, wanted_version}
use Rattle.reasons.specs.declared.Reason.{Reason}
use Rattle.reasons.specs.declared.Why.{Why}
use Rattle.reasons.specs.declared.Why.TheVariants as why

-- "the deciding line's number, class, node, section, language and offset"
abbrev pub reason : ℕ → Line → Reason
reason i x = record { line = i; class = x.class; node = x.node; section = x.section; language = x.language; offset = x.offset }

-- "or that no line matches"
abbrev pub line_told : List Line → Option ℕ → Why
line_told ls (Some i) = why.Line (reason i (line_at ls i))
line_told ls None = why.NoLine

-- ---- "For the Rust kind it names the first listed line equal to the name, else the first general local All line."
unfoldable pub rust_deciding : List ℕ → List Line → Option ℕ
rust_deciding t ls = or_else (first_line (listed_as t) 0 ls) (first_line bare_star 0 ls)

-- what is answered, or why there is no answer
abbrev pub WhyAnswer : Type 0
WhyAnswer = Result Why Refusal

-- ---- "It says "wanted version" when the `@` part decided": where the lookup answers it, an empty one too; an unknown one is refused there (10)
abbrev pub wanted_told : Result VersionIndex Refusal → WhyAnswer
wanted_told (Ok i) = Ok why.Wanted
wanted_told (Err e) = Err e

-- "The line must match the name and none ahead of it in 01's ranking may; at equal rank the lowest number is named": 01's walk gives this line
abbrev pub by_wanted_told : Book → Name → Option (List ℕ) → WhyAnswer
by_wanted_told w n (Some v) = wanted_told (wanted_version w.nodes v)
by_wanted_told w n None = Ok (line_told w.lines (deciding n w))

-- of the Rust kind the `@` part decides nothing
unfoldable pub why_of : Book → Name → Option (List ℕ) → WhyAnswer
why_of w n v = cond (eqb w.kind rust) (Ok (line_told w.lines (rust_deciding n.raw w.lines))) (by_wanted_told w n v)

-- ---- "Refusals: those of the lookup." "Order: 14, 13, … 1, 9, 10". Of an export list the lookup is membership, of which no version is wanted (13)
abbrev pub is_wanted : Option (List ℕ) → Bool
is_wanted (Some v) = true
is_wanted None = false

abbrev pub barred : ℕ → Bool → Bool
barred kind has = eqb kind export && has

unfoldable pub why_asked : Option Book → Name → Option (List ℕ) → WhyAnswer
why_asked None n v = Err no.NoBook
why_asked (Some w) n v = cond (barred w.kind (is_wanted v)) (Err no.WrongKind) (result_and (name_refusal n (long_wanted v)) (why_of w n v))

-- ---- the number of these answers is `refusal_of`; what they tell, in seven numbers: what is answered (0 no line, 1 a line, 2 the wanted version), then line, class, node, section, language and offset,
-- zeros where no line is
abbrev pub seven : ℕ → Reason → List ℕ
seven what r = what ∷ r.line ∷ r.class ∷ r.node ∷ r.section ∷ r.language ∷ r.offset ∷ []

abbrev pub no_reason : Reason
no_reason = record { line = 0; class = 0; node = 0; section = 0; language = 0; offset = 0 }

abbrev pub why_numbers : WhyAnswer → List ℕ
why_numbers (Ok (why.Line r)) = seven 1 r
why_numbers (Ok why.NoLine) = seven 0 no_reason
why_numbers (Ok why.Wanted) = seven 2 no_reason
why_numbers (Err e) = seven 0 no_reason
