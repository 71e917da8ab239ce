-- Version and locality of a name, as 01 has them under 'Ranking'. Assumes nothing.
use Rattle.std.specs.Prelude.{ℕ, ◌+◌, List, [], ◌∷◌, Bool, false, cond, ◌&&◌, eqb, Option, Some, None, Result, Ok, Err}
use Rattle.std.specs.Option.{option_map}
use Rattle.std.specs.Result.{result_and}
use Rattle.std.specs.Borrow.{Bor}
use Rattle.numbers.specs.Limits.{over, version_limit}
use Rattle.numbers.specs.Marks.{global}
use Rattle.numbers.specs.declared.Refusal.{Refusal}
use Rattle.numbers.specs.declared.Refusal.TheVariants as no
use Rattle.lists.specs.Same.{same}
use Rattle.lists.specs.Each.{any}
use Rattle.book.specs.declared.Frame.{Frame}
use Rattle.book.specs.Books.{Node, Line, Book, export, rust}
use Rattle.book.specs.Edits.{line_at}
use Rattle.ranking.specs.Matching.{Name}
use Rattle.ranking.specs.Names.{name_refusal}
use Rattle.ranking.specs.Walk.{deciding, deciding_among, or_else}
use Rattle.lookups.specs.declared.index.NodeNumber.{NodeNumber}
use Rattle.lookups.specs.declared.index.VersionIndex.{VersionIndex}
use Rattle.lookups.specs.declared.answers.Locality.{Locality}
use Rattle.lookups.specs.declared.answers.Locality.TheVariants as locality

-- ---- "index is 1 plus number, with 1 the named value for global"
unfoldable pub index_of : NodeNumber → VersionIndex
index_of i = record { 0 = 1 + i.0 }

abbrev pub global_index : VersionIndex
global_index = record { 0 = 1 }

-- what is answered: an index or none, global or local or neither, or why there is no answer
abbrev pub VersionAnswer : Type 0
VersionAnswer = Result (Option VersionIndex) Refusal

abbrev pub LocalityAnswer : Type 0
LocalityAnswer = Result (Option Locality) Refusal

-- the answer with that index
abbrev pub index : ℕ → VersionAnswer
index i = Ok (Some (record { 0 = i }))

abbrev pub node_number : ℕ → NodeNumber
node_number i = record { 0 = i }

-- "node 0 answers none"
unfoldable pub node_version : ℕ → Option VersionIndex
node_version i = cond (eqb i 0) None (Some (index_of (node_number i)))

-- ---- "A wanted version takes the last node of that name."
-- among nodes that are numbered from i on
unfoldable pub last_named : List Node → ℕ → List ℕ → Option ℕ
last_named [] i t = None
last_named (x ∷ xs) i t = or_else (last_named xs (i + 1) t) (cond (same x.name t) (Some i) None)

-- "A wanted version that is empty gives 1, a known one its index, an unknown one refusal 10."
abbrev pub known : Option ℕ → Result VersionIndex Refusal
known (Some i) = Ok (index_of (node_number i))
known None = Err no.UnknownVersion

unfoldable pub wanted_version : List Node → List ℕ → Result VersionIndex Refusal
wanted_version xs [] = Ok global_index
wanted_version xs (c ∷ v) = known (last_named xs 0 (c ∷ v))

-- ---- the deciding line's node
abbrev pub decided_version : List Line → Option ℕ → Option VersionIndex
decided_version ls (Some i) = node_version (line_at ls i).node
decided_version ls None = None

-- by the line that decides among the lines ls of a book with that frame
abbrev pub version_among : Frame → Name → List Line → Option VersionIndex
version_among f n ls = decided_version ls (deciding_among f n ls)

-- a wanted version is never without an index
abbrev pub indexed : Result VersionIndex Refusal → VersionAnswer
indexed (Ok i) = Ok (Some i)
indexed (Err e) = Err e

abbrev pub by_wanted : Book → Name → Option (List ℕ) → VersionAnswer
by_wanted w n (Some v) = indexed (wanted_version w.nodes v)
by_wanted w n None = Ok (decided_version w.lines (deciding n w))

-- "Rust kind: … Version is always none, a wanted one too, so 10 isn't given"
unfoldable pub version_of : Book → Name → Option (List ℕ) → VersionAnswer
version_of w n v = cond (eqb w.kind rust) (Ok None) (by_wanted w n v)

-- ---- "Locality is the deciding section"
abbrev pub decided_locality : List Line → Option ℕ → Option Locality
decided_locality ls (Some i) = Some (cond (eqb (line_at ls i).section global) locality.Global locality.Local)
decided_locality ls None = None

abbrev pub locality_among : Frame → Name → List Line → Option Locality
locality_among f n ls = decided_locality ls (deciding_among f n ls)

-- "global for listed names, else local"; the global lines of a book of the Rust kind are Exact and general, and none is struck (14)
unfoldable pub listed_as : List ℕ → Line → Bool
listed_as t x = eqb x.section global && same x.bytes t

unfoldable pub listed : List Line → List ℕ → Bool
listed xs t = any (listed_as t) xs

unfoldable pub locality_of : Book → Name → Option Locality
locality_of w n = cond (eqb w.kind rust) (Some (cond (listed w.lines n.raw) locality.Global locality.Local)) (decided_locality w.lines (deciding n w))

-- ---- "Order: 14, 13, … 1, 9, 10"
-- a wanted version, where there is one: behind a reference, or as C tells it
abbrev pub bytes_of : Option (Bor (List ℕ)) → Option (List ℕ)
bytes_of v = option_map (λ (b : Bor (List ℕ)). b.now) v

abbrev pub wanted_of : Bool → List ℕ → Option (List ℕ)
wanted_of has v = cond has (Some v) None

-- "wanted version 4,096"
abbrev pub long_wanted : Option (List ℕ) → Bool
long_wanted (Some v) = over version_limit v
long_wanted None = false

unfoldable pub version_asked : Option Book → Name → Option (List ℕ) → VersionAnswer
version_asked None n v = Err no.NoBook
version_asked (Some w) n v = cond (eqb w.kind export) (Err no.WrongKind) (result_and (name_refusal n (long_wanted v)) (version_of w n v))

-- "with or without a wanted version": locality is asked without one, so none refuses it
unfoldable pub locality_asked : Option Book → Name → LocalityAnswer
locality_asked None n = Err no.NoBook
locality_asked (Some w) n = cond (eqb w.kind export) (Err no.WrongKind) (result_and (name_refusal n false) (Ok (locality_of w n)))

-- ---- the value of these answers: an index, 0 for none; 0 nothing, 1 global, 2 local. Their number is `refusal_of`
abbrev pub version_value : VersionAnswer → ℕ
version_value (Ok (Some i)) = i.0
version_value (Ok None) = 0
version_value (Err e) = 0

abbrev pub locality_value : LocalityAnswer → ℕ
locality_value (Ok None) = 0
locality_value (Ok (Some locality.Global)) = 1
locality_value (Ok (Some locality.Local)) = 2
locality_value (Err e) = 0
