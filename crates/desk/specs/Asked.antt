-- What the release desk prints for a symbol's line that is asked of a book. Assumes nothing.
use Rattle.std.specs.Prelude.{ℕ, ◌≡◌, List, [], ◌∷◌, ◌++◌, Bool, true, false, cond, eqb, None, Option, Result, Ok, Err}
use Rattle.numbers.specs.declared.Refusal.{Refusal}
use Rattle.numbers.specs.Saying.{number}
use Rattle.numbers.specs.Signs.{line_feed, space, tab}
use Rattle.lists.specs.Texts.{codes}
use Rattle.linker_script.specs.Finding.{first_from, is}
use Rattle.book.specs.Books.{Book, export}
use Rattle.ranking.specs.Matching.{Name}
use Rattle.lookups.specs.Lookups.{locality_asked, version_asked}
use Rattle.export_list.specs.Membership.{contains_asked}
use Rattle.printing.specs.Printing.{refused_fields}
use Rattle.printing_symbols.specs.Lines.{symbol_answered, symbol_line}
use Rattle.printing_why.specs.Splits.{asked_name, asked_version}

-- `ask NAME[@VERSION][<TAB>DEMANGLED]`: as verlist prints it, with the demangled name where the line tells one; for an export list `NAME in` or `NAME out`
abbrev pub member_fields : Result Bool Refusal → List ℕ
member_fields (Ok true) = codes "in"
member_fields (Ok false) = codes "out"
member_fields (Err e) = refused_fields (number e)

unfoldable pub member_line : List ℕ → Result Bool Refusal → List ℕ
member_line name m = name ++ space ∷ (member_fields m ++ line_feed ∷ [])

unfoldable pub member_asked : Option Book → Name → List ℕ
member_asked w n = member_line n.raw (contains_asked w n)

unfoldable pub version_asked_line : Option Book → Name → Option (List ℕ) → List ℕ
version_asked_line w n v = symbol_line n.raw (version_asked w n v) (locality_asked w n)

unfoldable pub asked : ℕ → Option Book → List ℕ → List ℕ
asked kind w t = cond (eqb kind export) (member_asked w (asked_name t)) (version_asked_line w (asked_name t) (asked_version t))

-- a line without a TAB is asked as verlist asks it
abbrev pub AsksAsVerlist : Type 0
AsksAsVerlist = (kind : ℕ) (w : Option Book) (t : List ℕ) → (kind ≡ export → ⊥) → first_from (is tab) t 0 ≡ None → asked kind w t ≡ symbol_answered w t
