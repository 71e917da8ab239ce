-- Known points of document 02, request 01: runs of stars, of the definitions that the code is proved to meet. proofs/RunTheorem.antt proves the table. What
-- the request says of the Rust is in docs/DIFFERENCES.md, and demand 3 in histories/specs/. Assumes nothing.
use Rattle.std.specs.Prelude.{ℕ, ◌+◌, ◌<◌, ◌≤◌, ◌≡◌, List, [], ◌∷◌, Bool, true, false, length, replicate, Option, Some, None, Ok}
use Prim.Native.String.{String}
use Rattle.numbers.specs.Classes.{star_class}
use Rattle.numbers.specs.Limits.{token_limit}
use Rattle.numbers.specs.Marks.{cxx, general, global}
use Rattle.numbers.specs.declared.Refusal.TheVariants as why
use Rattle.numbers.specs.Refusals.{bad_pattern, no_room}
use Rattle.numbers.specs.Signs.{asterisk, opening_bracket}
use Rattle.lists.specs.Texts.{codes}
use Rattle.numbers.specs.declared.Edition.TheVariants.{Reld}
use Rattle.classes.specs.declared.Class.TheVariants.{Exact, Escaped, Star, All}
use Rattle.storing.specs.Keeping.{kept, refused, keep}
use Rattle.book.specs.Books.{Book, Line, new_line, regular, rust}
use Rattle.book.specs.Layout.{Buffers, five, row_of_line}
use Rattle.book.specs.View.{view}
use Rattle.book.specs.Sanity.{glob_stands}
use Rattle.book_opening.specs.Opening.{left, told}
use Rattle.lookups.specs.declared.answers.Locality.TheVariants.{Local}
use Rattle.trial.specs.Changes.{Change, to, no}
use Rattle.trial.specs.Symbols.{symbol_asked}
use Rattle.trial.specs.Trial.{add_asked}
use Rattle.known_points.specs.KnownPoints.{fits, keeps, locality, opened}
use Rattle.known_points.specs.Tables.{opened_list, opened_script, rooms}

-- "C3 A9", the bytes of é, before others
abbrev e_acute : List ℕ → List ℕ
e_acute s = 0xC3 ∷ 0xA9 ∷ s

-- "a run outside a bracket is kept as one star", "brackets being read after `[^` has become `[!`"
pub record KeptRuns : Type 0 where
  pub supplied : keeps "haze_**" ≡ kept Star (codes "haze_*")
  pub between : keeps "?**?" ≡ kept Star (codes "?*?")
  pub bracket : keeps "a[^**]**" ≡ kept Star (codes "a[!**]*")
  pub caret_first : keeps "[^]**]**" ≡ kept Star (codes "[!]**]*")
  pub bracket_alone : keeps "[**]" ≡ kept Star (codes "[**]")
  pub first_in_bracket : keeps "[]**]**" ≡ kept Star (codes "[]**]*")
  pub two_runs : keeps "a**[b]***c" ≡ kept Star (codes "a*[b]*c")
  pub escape : keeps "\\**" ≡ kept Star (codes "\\*")
  pub accented : keep Reld (opening_bracket ∷ e_acute (codes "**]**")) ≡ kept Star (opening_bracket ∷ e_acute (codes "**]*"))

-- globs alone are squeezed
pub record KeptWhole : Type 0 where
  pub quoted : keeps "\"**\"" ≡ kept Exact (codes "**")
  pub escaped : keeps "\\*\\*" ≡ kept Escaped (codes "**")

-- "a token of two or more stars only is a Star glob, not All"; the limit is that of the token
pub record StarsOnly : Type 0 where
  pub one : keeps "*" ≡ kept All []
  pub several : (n : ℕ) → n + 2 ≤ token_limit → keep Reld (replicate (n + 2) asterisk) ≡ kept Star (asterisk ∷ [])
  pub too_many : (n : ℕ) → token_limit < n → keep Reld (replicate n asterisk) ≡ refused why.TooLong

-- "fnmatch reads a run of stars as one"
pub record MatchedRuns : Type 0 where
  pub nothing : fits "haze_**" (codes "haze_") ≡ true
  pub more : fits "haze_**" (codes "haze_fog") ≡ true
  pub too_short : fits "haze_**" (codes "haze") ≡ false
  pub ends : fits "?**?" (codes "ab") ≡ true
  pub ends_apart : fits "?**?" (codes "acdb") ≡ true
  pub too_few : fits "?**?" (codes "a") ≡ false
  pub not_star : fits "a[^**]**" (codes "a*") ≡ false
  pub not_star_more : fits "a[^**]**" (codes "abc") ≡ true

-- "6 now means an unclosed bracket only"
pub record Unclosed : Type 0 where
  pub bracket : keeps "[**" ≡ refused why.BadPattern
  pub behind : keeps "**[" ≡ refused why.BadPattern
  pub caret : keeps "[^]" ≡ refused why.BadPattern
  pub run : keeps "a**b" ≡ kept Star (codes "a*b")
  pub bytes_first : keep Reld (0xFF ∷ codes "**[") ≡ refused why.GlobNotUtf8

-- room is asked of what is kept: `a**` takes two bytes
pub record Room : Type 0 where
  pub two : (told (opened_script (rooms 2 1 1 2 0) "A { a**; };")).refusal ≡ 0
  pub one : (told (opened_script (rooms 2 1 1 1 0) "A { a**; };")).refusal ≡ no_room

-- an added token, and the texts of `add_symbol`, go the same way: to the list `{};`, with room for so many bytes
abbrev list_room : ℕ → Buffers
list_room pool = rooms 1 0 2 pool 2

abbrev listed : ℕ → Option Book
listed pool = let b = list_room pool in view (told (opened_list b "{};")).counts (left b (opened_list b "{};"))

abbrev add_token : ℕ → String → Change
add_token pool t = add_asked (list_room pool) (listed pool) 0 global general (codes t)

abbrev add_text : ℕ → Bool → String → Change
add_text pool bare t = symbol_asked (list_room pool) (listed pool) (codes t) bare

abbrev lines_of : Change → List Line
lines_of (to w) = w.lines
lines_of (no n) = []

abbrev star_line : ℕ → String → Line
star_line language t = new_line 0 global language star_class (codes t)

pub record AddedRuns : Type 0 where
  pub token : lines_of (add_token 2 "g** ") ≡ star_line general "g*" ∷ []
  pub token_room : add_token 1 "g**" ≡ no no_room
  pub text : lines_of (add_text 3 false "extern \"C++\" { g**; ***; };") ≡ star_line cxx "g*" ∷ star_line cxx "*" ∷ []
  pub text_room : add_text 2 false "extern \"C++\" { g**; ***; };" ≡ no no_room
  pub bare : lines_of (add_text 2 true "g**") ≡ star_line general "g*" ∷ []
  pub unclosed : add_text 3 false "[**;" ≡ no bad_pattern

-- `**` is no bare `*`, and ranks before one at the same node
pub record Classed : Type 0 where
  pub taken : (told (opened "{ global: f; local: **; };")).refusal ≡ 0
  pub no_star : (told (opened "{ global: f; local: **; };")).counts.kind ≡ regular
  pub star : (told (opened "{ global: f; local: *; };")).counts.kind ≡ rust
  pub before_all : locality "A { global: *; local: **; };" "f" ≡ Ok (Some Local)
  pub before_all_later : locality "A { local: **; }; B { global: *; };" "f" ≡ Ok (Some Local)

abbrev held_any : Option Book → Bool
held_any (Some b) = true
held_any None = false

-- what lent buffers hold: one line, with that code and those bytes, of node 0 in a Regular book
abbrev lent : ℕ → String → Option Book
lent code t =
    view (record { kind = regular; nodes = 1; names = 0; lines = 1; pool = length (codes t); edits = 0 })
    (five (0 ∷ 0 ∷ 0 ∷ []) [] (row_of_line 0 code 0 (length (codes t)) 0) (codes t) [])

-- 14, "a stored glob that … storing would change": no book, of a Star (12) and of a NonStar (8); an Exact (0) and an Escaped (4) are no globs
pub record Lent : Type 0 where
  pub star_line : lent 12 "a**" ≡ None
  pub nonstar_line : lent 8 "a**" ≡ None
  pub star_kept : held_any (lent 12 "a*") ≡ true
  pub nonstar_kept : held_any (lent 8 "a*") ≡ true
  pub bracket_kept : held_any (lent 12 "[**]") ≡ true
  pub exact_kept : held_any (lent 0 "**") ≡ true
  pub escaped_kept : held_any (lent 4 "**") ≡ true
  pub star_alone : held_any (lent 12 "*") ≡ true
  pub run : glob_stands Reld (codes "a**") ≡ false
  pub stars : glob_stands Reld (codes "**") ≡ false
  pub star : glob_stands Reld (codes "*") ≡ true
  pub bracket : glob_stands Reld (codes "[**]") ≡ true
  pub caret : glob_stands Reld (codes "[^*]") ≡ false

-- the table
pub record RunPoints : Type 0 where
  pub kept_runs : KeptRuns
  pub kept_whole : KeptWhole
  pub stars_only : StarsOnly
  pub matched_runs : MatchedRuns
  pub unclosed : Unclosed
  pub room : Room
  pub added_runs : AddedRuns
  pub classed : Classed
  pub lent : Lent
