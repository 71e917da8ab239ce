-- Readings of known texts, one row for each: how they end, and where it is told, the lines that they give. Most are texts that 01 can be read two ways of, and
-- the decided reading; P9 and P10 are 01's known points. All of it as far as a reader goes: whether a parent is known, or a pattern good, is not its question.
-- proofs/Points.antt proves the table.
-- Assumes nothing.
use Rattle.std.specs.Prelude.{ℕ, ◌≡◌, List, [], ◌∷◌}
use Prim.Native.String.{String}
use Rattle.lists.specs.Texts.{codes}
use Rattle.numbers.specs.Editions.{reld}
use Rattle.reading_cursors.specs.declared.Event.{Event}
use Rattle.reading_cursors.specs.declared.Event.TheVariants.{Node, Body, Section, Extern, Closed, Line, Parent}
use Rattle.reading_cursors.specs.Places.{at_script, at_list, at_symbol, at_bare}
use Rattle.reading.specs.Events.{accepted, refused, Reading, reading}

-- ---- the readings of a text: as a version script, an export list, a text of `add_symbol`, and one without semicolon
unfoldable pub as_script : String → Reading
as_script t = reading reld at_script (codes t)

unfoldable pub as_list : String → Reading
as_list t = reading reld at_list (codes t)

unfoldable pub as_symbol : String → Reading
as_symbol t = reading reld at_symbol (codes t)

unfoldable pub as_bare : String → Reading
as_bare t = reading reld at_bare (codes t)

-- the lines among events: section, language, start, length
abbrev pub line_before : Event → List Event → List Event
line_before (Line section language start len) l = Line section language start len ∷ l
line_before (Node start len) l = l
line_before Body l = l
line_before (Section section) l = l
line_before (Extern section language) l = l
line_before Closed l = l
line_before (Parent start len) l = l

unfoldable pub lines : List Event → List Event
lines [] = []
lines (e ∷ l) = line_before e (lines l)

-- a reading that is accepted, with these lines
abbrev pub gives : List Event → Reading → Type 0
gives l r = (lines r.events ≡ l) × (r.outcome ≡ accepted)

-- and one that is refused with the number n at the place p
abbrev pub refuses : ℕ → ℕ → Reading → Type 0
refuses n p r = r.outcome ≡ refused n p

-- "extern of another language, or within extern"
pub record Languages : Type 0 where
  pub other : refuses 4 2 (as_script "{ extern x; };")
  pub two_blanks : refuses 4 2 (as_script "{ extern  \"C\" { f; }; };")
  pub ends : refuses 4 2 (as_script "{ extern ")
  pub within : refuses 4 15 (as_script "{ extern \"C\" { extern ")

-- "an extern token to `}` with no `}` left", and one that would be empty
pub record Braces : Type 0 where
  pub empty : refuses 2 15 (as_script "{ extern \"C\" { }")
  pub none_left : refuses 3 14 (as_script "{ extern \"C\" {")
  pub no_pattern : refuses 3 15 (as_script "{ extern \"C\" { [")

-- "when the remaining text has no `};`, or has one with no `;` before it", asked of all bytes behind the token's start, comments too; in a body
-- a token goes to its `;`, comments too
pub record Remaining : Type 0 where
  pub comment : gives (Line 0 0 15 4 ∷ Line 0 0 22 4 ∷ []) (as_script "{ extern \"C\" { f /* ; */ g }; };")
  pub before : gives (Line 0 0 15 1 ∷ Line 0 0 18 1 ∷ []) (as_script "{ extern \"C\" { f; g }; };")
  pub outer : refuses 2 17 (as_script "{ extern \"C\" { f } };")
  pub in_body : gives (Line 0 0 2 7 ∷ []) (as_script "{ f /*c*/; };")

-- "`global:` and `local:` set the section"
pub record Sections : Type 0 where
  pub both : gives (Line 1 0 15 1 ∷ []) (as_script "{ global:local:f; };")
  pub in_extern : gives (Line 0 0 15 9 ∷ []) (as_script "{ extern \"C\" { global: f; }; };")
  pub blank : gives (Line 0 0 2 10 ∷ []) (as_script "{ global : f; };")

-- "`};` with nothing between" closes a list, and an extern block too; "`}` ends it and skips" is of a body
pub record Closings : Type 0 where
  pub in_body : gives (Line 0 0 2 1 ∷ []) (as_script "{ f; } ;")
  pub in_extern : gives (Line 0 0 15 2 ∷ Line 0 0 20 1 ∷ []) (as_script "{ extern \"C\" { a} ; b }; };")
  pub in_list : refuses 2 8 (as_list "{ f; } ;")

-- "a name (…), skip, body, parent text up to `;`"
pub record Nodes : Type 0 where
  pub comment : refuses 3 5 (as_script "A {} #x;")
  pub missing : refuses 2 5 (as_script "A {} B")
  pub semicolon : as_script "A;b {};" ≡ record { events = Node 0 3 ∷ Body ∷ Parent 6 0 ∷ []; outcome = accepted }
  pub return : as_script "A\r\n{};" ≡ record { events = Node 0 2 ∷ Body ∷ Parent 5 0 ∷ []; outcome = accepted }
  pub raw : as_script "B {} A/*c*/;" ≡ record { events = Node 0 1 ∷ Body ∷ Parent 5 6 ∷ []; outcome = accepted }
  pub behind :
      as_script "A {}; B {} /*c*/A;"
      ≡ record { events = Node 0 1 ∷ Body ∷ Parent 4 0 ∷ Node 6 1 ∷ Body ∷ Parent 16 1 ∷ []; outcome = accepted }

-- "at least one" byte, before "A token loses trailing space, tab, LF, FF, CR"
pub record Tokens : Type 0 where
  pub white : gives (Line 0 0 2 0 ∷ []) (as_script "{ \u{c}; };")
  pub empty : refuses 2 2 (as_script "{ ; };")

-- "Empty input is accepted."
pub record Empty : Type 0 where
  pub script : as_script "" ≡ record { events = []; outcome = accepted }
  pub comment : as_script "#x\n" ≡ record { events = []; outcome = accepted }
  pub list : refuses 2 0 (as_list "")
  pub bare : gives (Line 0 0 0 0 ∷ []) (as_bare "")

-- "P9 `/*/{};` accepted", and "P10 `A {}; B {}; A {}; C {} A;` parent of C": its text
pub record Points : Type 0 where
  pub p9 : as_script "/*/{};" ≡ record { events = Body ∷ []; outcome = accepted }
  pub p10 :
      as_script "A {}; B {}; A {}; C {} A;"
      ≡ record {
        events =
            Node 0 1 ∷ Body ∷ Parent 4 0 ∷ Node 6 1 ∷ Body ∷ Parent 10 0 ∷ Node 12 1 ∷ Body ∷ Parent 16 0 ∷ Node 18 1 ∷ Body ∷ Parent 23 1 ∷ [];
        outcome = accepted;
      }

-- "With `without_semicolon` a bare token goes to the first `}` (at least one byte); where there is none it is all the text"
pub record Bare : Type 0 where
  pub semicolon : gives (Line 0 0 0 2 ∷ []) (as_bare "f;")
  pub brace : gives (Line 0 0 0 3 ∷ []) (as_bare "a;b}c")
  pub comment : refuses 3 0 (as_bare "#x")
  pub comment_brace : gives (Line 0 0 0 2 ∷ []) (as_bare "#x}")
  pub comment_ends : gives (Line 0 0 0 4 ∷ []) (as_bare "#x\nf")
  pub comment_behind : gives (Line 0 0 0 4 ∷ []) (as_bare "f #x")

-- "`};`, skip"; "An extern block there differs in one point: with no `};` left, tokens go to `;`."
pub record Blocks : Type 0 where
  pub behind : refuses 3 19 (as_symbol "extern \"C\" { f; }; #x")
  pub bare : refuses 2 16 (as_bare "extern \"C\" { a; b")
  pub plain : refuses 3 13 (as_symbol "extern \"C\" { a; b")

-- the table
pub record KnownReadings : Type 0 where
  pub languages : Languages
  pub braces : Braces
  pub remaining : Remaining
  pub sections : Sections
  pub closings : Closings
  pub nodes : Nodes
  pub tokens : Tokens
  pub empty : Empty
  pub points : Points
  pub bare : Bare
  pub blocks : Blocks
