-- Known points of document 02, request 03: the line that is named, of the definitions that the code is proved to meet. proofs/WhyTheorem.antt proves the table.
-- Assumes nothing.
use Rattle.std.specs.Prelude.{ℕ, ◌≡◌, Option, Some, None, Ok, Err}
use Prim.Native.String.{String}
use Rattle.numbers.specs.Classes.{all_class, exact_class, nonstar_class, star_class}
use Rattle.numbers.specs.Marks.{cxx, general, global, local}
use Rattle.numbers.specs.declared.Refusal.TheVariants as refusal
use Rattle.lists.specs.Texts.{codes}
use Rattle.book.specs.Books.{Book}
use Rattle.book.specs.Layout.{Buffers}
use Rattle.book_opening.specs.Opening.{Opening, opens, declined}
use Rattle.reasons.specs.declared.Why.TheVariants as why
use Rattle.reasons.specs.Why.{WhyAnswer, why_asked}
use Rattle.trial.specs.Changes.{Change, to, no}
use Rattle.trial.specs.Trial.{add_asked, strike_asked}
use Rattle.known_points.specs.Tables.{demangles, opened_list, opened_script, rooms, symbol}

-- room for node 0 and three nodes with names of a byte each, for four lines with 16 bytes, and for two edits
abbrev small : Buffers
small = rooms 4 3 4 16 2

abbrev book_in : Opening → Option Book
book_in (opens w) = Some w
book_in (declined n p) = None

abbrev script : String → Option Book
script t = book_in (opened_script small t)

abbrev list : String → Option Book
list t = book_in (opened_list small t)

abbrev edited : Change → Option Book
edited (to w) = Some w
edited (no n) = None

-- without a wanted version, and with one
abbrev why_of : Option Book → String → WhyAnswer
why_of w t = why_asked w (symbol t) None

abbrev why_with : Option Book → String → String → WhyAnswer
why_with w t v = why_asked w (symbol t) (Some (codes v))

-- the line with that number, class, node, section, language and offset
abbrev line : ℕ → ℕ → ℕ → ℕ → ℕ → ℕ → WhyAnswer
line i class node section language offset =
    Ok (why.Line (record { line = i; class = class; node = node; section = section; language = language; offset = offset }))

-- ---- "at equal rank the lowest number is named"
pub record EqualRank : Type 0 where
  pub twice : why_of (script "A { f; f; };") "f" ≡ line 0 exact_class 1 global general 5
  -- a struck line is not named
  pub struck : why_of (edited (strike_asked small (script "A { f; f; };") 0)) "f" ≡ line 1 exact_class 1 global general 8
  pub stars : why_of (script "V { foo*; foo_b*; };") "foo_bar" ≡ line 0 star_class 1 global general 5
  -- an added line has the offset 0
  pub added : why_of (edited (add_asked small (script "A { f; };") 1 local general (codes "g"))) "g" ≡ line 1 exact_class 1 local general 0

-- ---- "The line must match the name and none ahead of it in 01's ranking may": P11 and P12 of 01 with their lines
pub record Ranks : Type 0 where
  pub p11 : why_of (script "V { extern \"C++\" { f; }; local: f; };") "f" ≡ line 1 exact_class 1 local general 33
  pub p12_fx : why_of (script "A { f*; }; B { local: f?; }; C { f*; };") "fx" ≡ line 1 nonstar_class 2 local general 23
  pub p12_fxy : why_of (script "A { f*; }; B { local: f?; }; C { f*; };") "fxy" ≡ line 2 star_class 3 global general 34
  -- "C++ lines see the demangled name"
  pub demangled : why_asked (script "V { extern \"C++\" { g; }; local: *; };") (demangles "f" "g") None ≡ line 0 exact_class 1 global cxx 20
  pub no_line : why_of (script "V { f; };") "g" ≡ Ok why.NoLine

-- ---- "It says "wanted version" when the `@` part decided"
pub record Wanted : Type 0 where
  pub plain : why_of (script "V { f; };") "f" ≡ line 0 exact_class 1 global general 5
  pub empty : why_with (script "V { f; };") "f" "" ≡ Ok why.Wanted
  pub known : why_with (script "V { f; };") "f" "V" ≡ Ok why.Wanted
  pub unknown : why_with (script "V { f; };") "f" "NONE" ≡ Err refusal.UnknownVersion
  -- where no line matches too
  pub unmatched : why_with (script "V { f; };") "g" "V" ≡ Ok why.Wanted

-- ---- "For the Rust kind it names the first listed line equal to the name, else the first general local All line."
abbrev rust_script : Option Book
rust_script = script "{ f; local: extern \"C++\" { *; }; *; };"

pub record RustKind : Type 0 where
  pub listed : why_of rust_script "f" ≡ line 0 exact_class 0 global general 3
  pub unlisted : why_of rust_script "g" ≡ line 2 all_class 0 local general 34
  pub twice : why_of (script "{ f; f; local: *; *; };") "f" ≡ line 0 exact_class 0 global general 3
  pub stars : why_of (script "{ f; f; local: *; *; };") "g" ≡ line 2 all_class 0 local general 16
  -- the `@` part does not decide there, known or not
  pub empty : why_with rust_script "f" "" ≡ line 0 exact_class 0 global general 3
  pub wanted : why_with rust_script "g" "V" ≡ line 2 all_class 0 local general 34

-- ---- an export list: the line that makes the name a member
pub record ExportList : Type 0 where
  pub member : why_of (list "{ f*; f; };") "f" ≡ line 1 exact_class 0 global general 7
  pub glob : why_of (list "{ f*; f; };") "fx" ≡ line 0 star_class 0 global general 3
  pub other : why_of (list "{ f*; f; };") "g" ≡ Ok why.NoLine
  pub wanted : why_with (list "{ f*; f; };") "f" "" ≡ Err refusal.WrongKind

pub record WhyPoints : Type 0 where
  pub equal : EqualRank
  pub ranks : Ranks
  pub wanted : Wanted
  pub rust : RustKind
  pub list : ExportList
  pub none : why_of None "f" ≡ Err refusal.NoBook
