-- A symbol's line of `why` and of the release desk, `NAME[@VERSION]`, or `NAME[@VERSION]<TAB>DEMANGLED`: what is asked. Assumes nothing.
use Rattle.std.specs.Prelude.{ℕ, List, cond, eqb, Option, Some, None}
use Rattle.book.specs.Books.{Book, export}
use Rattle.ranking.specs.Matching.{Name, name_of}
use Rattle.input.specs.Splitting.{demangled_part, name_part, symbol_part, wanted_part}

-- the name before the first `@` of what stands before the TAB, and the demangled one
abbrev pub raw_name : List ℕ → List ℕ
raw_name t = name_part (symbol_part t)

unfoldable pub asked_name : List ℕ → Name
asked_name t = name_of (raw_name t) (demangled_part t)

-- what stands behind that `@` is the wanted version
abbrev pub asked_version : List ℕ → Option (List ℕ)
asked_version t = wanted_part (symbol_part t)

-- of an export list no version is asked, as with `ask`
abbrev pub version_for : Option Book → List ℕ → Option (List ℕ)
version_for (Some w) t = cond (eqb w.kind export) None (asked_version t)
version_for None t = asked_version t
