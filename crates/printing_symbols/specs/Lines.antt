-- The lines that verlist prints, as 01 has them, and the room that they take. A number in decimal, `! N` and `refused N` are printing's. Assumes nothing.
use Rattle.std.specs.Prelude.{ℕ, List, [], ◌∷◌, ◌++◌, Option, Some, None, Result, Ok, Err}
use Rattle.numbers.specs.Signs.{dash, line_feed, space}
use Rattle.lists.specs.Texts.{codes}
use Rattle.book.specs.Books.{Book}
use Rattle.ranking.specs.Matching.{plain}
use Rattle.numbers.specs.declared.Refusal.{Refusal}
use Rattle.numbers.specs.Saying.{number}
use Rattle.lookups.specs.declared.index.VersionIndex.{VersionIndex}
use Rattle.lookups.specs.declared.answers.Locality.{Locality}
use Rattle.lookups.specs.declared.answers.Locality.TheVariants as locality
use Rattle.counting.specs.Questions.{counted, parent_count, version_count}
use Rattle.lookups.specs.Lookups.{LocalityAnswer, VersionAnswer, locality_asked, version_asked}
use Rattle.printing.specs.Printing.{decimal, refused_fields, refused_line}
use Rattle.input.specs.Splitting.{name_part, wanted_part}

-- ---- "It prints version and parent counts"; where they are refused, as the script is. Behind an opening they are not: it leaves a book of a kind that has
-- these counts. The cases stand here because the functions answer any buffers, an export list and buffers without a book too
unfoldable pub counts_line : Result ℕ Refusal → Result ℕ Refusal → List ℕ
counts_line (Ok n) (Ok p) = codes "nodes " ++ (decimal n ++ (codes " parents " ++ (decimal p ++ line_feed ∷ [])))
counts_line (Ok n) (Err e) = refused_line (number e)
counts_line (Err e) p = refused_line (number e)

unfoldable pub counts_answered : Option Book → List ℕ
counts_answered w = counts_line (counted version_count w) (counted parent_count w)

-- ---- "then the name before any `@`, index or `-`, and G, L or `-`; a refusal prints `!` and its number for these two fields"
unfoldable pub index_field : Option VersionIndex → List ℕ
index_field (Some i) = decimal i.0
index_field None = dash ∷ []

-- behind the index
unfoldable pub locality_field : Option Locality → List ℕ
locality_field (Some locality.Global) = codes " G"
locality_field (Some locality.Local) = codes " L"
locality_field None = codes " -"

-- of one book and one name no locality is refused where the version is not, so that case does not occur: it is here because the fields are those of any version
-- and any locality
unfoldable pub fields : VersionAnswer → LocalityAnswer → List ℕ
fields (Ok v) (Ok l) = index_field v ++ locality_field l
fields (Ok v) (Err e) = refused_fields (number e)
fields (Err e) l = refused_fields (number e)

unfoldable pub symbol_line : List ℕ → VersionAnswer → LocalityAnswer → List ℕ
symbol_line name v l = name ++ space ∷ (fields v l ++ line_feed ∷ [])

-- "the demangled name is the raw one": a name, and a wanted version, where there is one, asked of a book
unfoldable pub asked_line : Option Book → List ℕ → Option (List ℕ) → List ℕ
asked_line w name wanted = symbol_line name (version_asked w (plain name) wanted) (locality_asked w (plain name))

-- the line t of a symbol
unfoldable pub symbol_answered : Option Book → List ℕ → List ℕ
symbol_answered w t = asked_line w (name_part t) (wanted_part t)

-- ---- the room of a lent buffer: what is printed behind a name, or without one, is at most 48 bytes, and the line of the counts at most 36
abbrev pub tail_room : ℕ
tail_room = 48

abbrev pub counts_room : ℕ
counts_room = 36

-- a whole listing has room in 48 bytes and 15 for each byte of the input: an answer has at most 14 bytes besides its name, and its line has one at least
abbrev pub byte_room : ℕ
byte_room = 15
