-- 01's 'Known points', P1 to P12. One row for each, in 01's words, of the definitions that the code is proved to meet. proofs/Theorem.antt proves the table.
-- Assumes nothing.
use Rattle.std.specs.Prelude.{ℕ, ◌≡◌, List, [], ◌∷◌, Bool, true, false, Option, Some, None, Result, Ok}
use Prim.Native.String.{String}
use Rattle.lists.specs.Texts.{codes}
use Rattle.utf8.specs.Utf8.{chars}
use Rattle.numbers.specs.declared.Edition.TheVariants.{Reld}
use Rattle.pattern.specs.Patterns.{elements, matches}
use Rattle.classes.specs.declared.Class.TheVariants.{Exact, Escaped, NonStar, Star, All}
use Rattle.numbers.specs.declared.Refusal.TheVariants as why
use Rattle.storing.specs.Keeping.{Keep, kept, refused, keep}
use Rattle.book.specs.Books.{Book}
use Rattle.book.specs.Layout.{Buffers}
use Rattle.book.specs.View.{view}
use Rattle.book_opening.specs.Opening.{Opening, left, told}
use Rattle.numbers.specs.declared.Refusal.{Refusal}
use Rattle.lookups.specs.declared.answers.Locality.TheVariants.{Global, Local}
use Rattle.counting.specs.declared.Node.{Node}
use Rattle.counting.specs.Questions.{counted, node_of, told_of, version_count}
use Rattle.lookups.specs.Lookups.{LocalityAnswer, VersionAnswer, index, locality_asked, version_asked}
use Rattle.known_points.specs.Tables.{opened_script, rooms, symbol}

-- ---- what a token is, and which names it matches
-- what is kept of a token
abbrev pub keeps : String → Keep
keeps t = keep Reld (codes t)

-- the points ask this of globs only
abbrev pub kept_matches : Keep → List ℕ → Bool
kept_matches (kept NonStar b) n = matches (elements Reld b) (chars n)
kept_matches (kept Star b) n = matches (elements Reld b) (chars n)
kept_matches (kept Exact b) n = false
kept_matches (kept Escaped b) n = false
kept_matches (kept All b) n = false
kept_matches (refused r) n = false

-- whether a token is a glob that, as it is stored, matches a name
abbrev pub fits : String → List ℕ → Bool
fits t n = kept_matches (keeps t) n

-- "P1 `"*"` Exact; `*` All."
pub record P1 : Type 0 where
  pub quoted : keeps "\"*\"" ≡ kept Exact (codes "*")
  pub bare : keeps "*" ≡ kept All []

-- "P2 `\*` Escaped, stored `*`."
pub record P2 : Type 0 where
  pub escaped : keeps "\\*" ≡ kept Escaped (codes "*")

-- "P3 `?*` Star."
pub record P3 : Type 0 where
  pub star : keeps "?*" ≡ kept Star (codes "?*")

-- "P4 `?\*` NonStar, matches `x\yz`."
pub record P4 : Type 0 where
  pub nonstar : keeps "?\\*" ≡ kept NonStar (codes "?\\*")
  pub yes : fits "?\\*" (codes "x\\yz") ≡ true

-- "P5 `a\` Escaped, stored whole."
pub record P5 : Type 0 where
  pub escaped : keeps "a\\" ≡ kept Escaped (codes "a\\")

-- "P6 `[]]` matches `]`; `[]` refused 6."
pub record P6 : Type 0 where
  pub yes : fits "[]]" (codes "]") ≡ true
  pub unclosed : keeps "[]" ≡ refused why.BadPattern

-- "P7 `[^a]b` matches `xb`, not `ab`."
pub record P7 : Type 0 where
  pub yes : fits "[^a]b" (codes "xb") ≡ true
  pub no : fits "[^a]b" (codes "ab") ≡ false

-- "P8 `h?` matches `h` then C3 A9."
pub record P8 : Type 0 where
  pub yes : fits "h?" (0x68 ∷ 0xC3 ∷ 0xA9 ∷ []) ≡ true

-- ---- a script that is opened in buffers with room enough, and the book that the answered counts and the buffers hold then
abbrev pub enough : Buffers
enough = rooms 10 40 10 40 0

abbrev pub opened : String → Opening
opened t = opened_script enough t

abbrev pub held : String → Option Book
held t = view (told (opened t)).counts (left enough (opened t))

-- what it is asked: the version of a name that no demangler changes, with no version wanted, or with one; its locality; the count of versions; and a node
abbrev pub version : String → String → VersionAnswer
version s t = version_asked (held s) (symbol t) None

abbrev pub version_wanted : String → String → String → VersionAnswer
version_wanted s t v = version_asked (held s) (symbol t) (Some (codes v))

abbrev pub locality : String → String → LocalityAnswer
locality s t = locality_asked (held s) (symbol t)

abbrev pub versions : String → Result ℕ Refusal
versions s = counted version_count (held s)

abbrev pub node : String → ℕ → Result Node Refusal
node s i = node_of i (held s)

-- "P9 `/*/{};` accepted, version count 0."
pub record P9 : Type 0 where
  pub accepted : (told (opened "/*/{};")).refusal ≡ 0
  pub count : versions "/*/{};" ≡ Ok 0

-- "P10 `A {}; B {}; A {}; C {} A;` parent of C is 1; wanted A gives 4." C is node 4, and its name the byte at 3 of the names
pub record P10 : Type 0 where
  pub parent : node "A {}; B {}; A {}; C {} A;" 4 ≡ Ok (told_of 3 1 1)
  pub wanted : version_wanted "A {}; B {}; A {}; C {} A;" "f" "A" ≡ index 4

-- "P11 `V { extern "C++" { f; }; local: f; };` for f, f: index 2, local."
pub record P11 : Type 0 where
  pub version_of_f : version "V { extern \"C++\" { f; }; local: f; };" "f" ≡ index 2
  pub locality_of_f : locality "V { extern \"C++\" { f; }; local: f; };" "f" ≡ Ok (Some Local)

-- "P12 `A { f*; }; B { local: f?; }; C { f*; };` fx: 3 local; fxy: 4 global."
pub record P12 : Type 0 where
  pub fx : version "A { f*; }; B { local: f?; }; C { f*; };" "fx" ≡ index 3
  pub fx_local : locality "A { f*; }; B { local: f?; }; C { f*; };" "fx" ≡ Ok (Some Local)
  pub fxy : version "A { f*; }; B { local: f?; }; C { f*; };" "fxy" ≡ index 4
  pub fxy_global : locality "A { f*; }; B { local: f?; }; C { f*; };" "fxy" ≡ Ok (Some Global)

-- the table
pub record Points : Type 0 where
  pub p1 : P1
  pub p2 : P2
  pub p3 : P3
  pub p4 : P4
  pub p5 : P5
  pub p6 : P6
  pub p7 : P7
  pub p8 : P8
  pub p9 : P9
  pub p10 : P10
  pub p11 : P11
  pub p12 : P12
