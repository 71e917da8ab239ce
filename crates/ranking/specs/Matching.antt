-- Whether a line matches a name. Assumes nothing.
use Rattle.std.specs.Prelude.{ℕ, List, Bool, true, cond, ◌&&◌, eqb}
use Rattle.numbers.specs.Classes.{all_class, by_bytes}
use Rattle.numbers.specs.Marks.{cxx}
use Rattle.lists.specs.Same.{same}
use Rattle.utf8.specs.Utf8.{chars}
use Rattle.numbers.specs.declared.Edition.{Edition}
use Rattle.pattern.specs.Patterns.{elements, matches}
use Rattle.book.specs.Books.{Line}
use Rattle.book.specs.Edits.{stands}

-- a name, as it stands in the symbol table and as the demangler gives it
pub record Name : Type 0 where
  pub raw : List ℕ
  pub demangled : List ℕ

abbrev pub name_of : List ℕ → List ℕ → Name
name_of raw demangled = record { raw = raw; demangled = demangled }

-- "the raw one again if there is none"
abbrev pub plain : List ℕ → Name
plain raw = name_of raw raw

-- "C++ lines see the demangled name, others the raw one."
unfoldable pub seen : Name → Line → List ℕ
seen n x = cond (eqb x.language cxx) n.demangled n.raw

-- by the class: Exact and Escaped by their bytes, a glob by its pattern, All always
unfoldable pub class_matches : Edition → ℕ → List ℕ → List ℕ → Bool
class_matches e class bs n = cond (by_bytes class) (same bs n) (cond (eqb class all_class) true (matches (elements e bs) (chars n)))

-- a struck line matches nothing
unfoldable pub line_matches : Edition → Name → Line → Bool
line_matches e n x = stands x && class_matches e x.class x.bytes (seen n x)
