-- The line that is printed for a symbol, request 03: "prints the deciding line's number, class, node, section, language and offset, or that no line matches".
-- The script s is the text that was opened. Assumes nothing.
use Rattle.std.specs.Prelude.{ℕ, ◌-◌, List, [], ◌∷◌, ◌++◌, cond, eqb, Ok, Err}
use Rattle.numbers.specs.Classes.{escaped_class, exact_class, nonstar_class, star_class}
use Rattle.numbers.specs.Marks.{general, global}
use Rattle.numbers.specs.Signs.{line_feed, space}
use Rattle.lists.specs.Texts.{codes}
use Rattle.book.specs.Books.{Node}
use Rattle.book.specs.Sanity.{name_at}
use Rattle.reasons.specs.declared.Reason.{Reason}
use Rattle.reasons.specs.declared.Why.TheVariants as why
use Rattle.reasons.specs.Why.{WhyAnswer}
use Rattle.numbers.specs.Saying.{number}
use Rattle.input.specs.declared.positions.Position.{Position}
use Rattle.input.specs.Positions.{position}
use Rattle.printing.specs.Printing.{decimal, refused_fields, spaced}

-- "Classes: 0 Exact, 1 Escaped, 2 NonStar, 3 Star, 4 All"
unfoldable pub class_word : ℕ → List ℕ
class_word k =
    cond (eqb k exact_class) (codes "Exact")
    (cond (eqb k escaped_class) (codes "Escaped")
    (cond (eqb k nonstar_class) (codes "NonStar")
    (cond (eqb k star_class) (codes "Star")
    (codes "All"))))

-- "Section 1 is local, language 1 C++."
unfoldable pub section_word : ℕ → List ℕ
section_word k = cond (eqb k global) (codes "global") (codes "local")

unfoldable pub language_word : ℕ → List ℕ
language_word k = cond (eqb k general) (codes "general") (codes "C++")

-- ---- `line N class CLASS node NODE (NODENAME) section SECTION language LANGUAGE offset OFFSET at LINE:COLUMN`
unfoldable pub head_told : Reason → List ℕ
head_told r = spaced (codes "line") r.line ++ (codes " class " ++ (class_word r.class ++ spaced (codes " node") r.node))

unfoldable pub name_told : List ℕ → List ℕ
name_told t = codes " (" ++ (t ++ codes ")")

unfoldable pub marks_told : Reason → List ℕ
marks_told r = codes " section " ++ (section_word r.section ++ (codes " language " ++ language_word r.language))

-- the line and the column of a place in the script
unfoldable pub position_told : Position → List ℕ
position_told q = spaced (codes " at") q.line ++ (codes ":" ++ decimal q.column)

-- an offset is "the byte offset of its token in the opened text plus one"; "0 for an added line", which has no place
unfoldable pub place_told : List ℕ → ℕ → List ℕ
place_told s o = cond (eqb o 0) [] (position_told (position s (o - 1)))

unfoldable pub offset_told : List ℕ → Reason → List ℕ
offset_told s r = spaced (codes " offset") r.offset ++ place_told s r.offset

-- of a line in a node with the name t
unfoldable pub reason_told : List ℕ → List ℕ → Reason → List ℕ
reason_told s t r = head_told r ++ (name_told t ++ (marks_told r ++ offset_told s r))

-- ---- what stands behind a name: the line, or that none matches; "It says "wanted version" when the `@` part decided"; a refusal as verlist prints it
unfoldable pub why_fields : List ℕ → List Node → WhyAnswer → List ℕ
why_fields s xs (Ok (why.Line r)) = reason_told s (name_at xs r.node) r
why_fields s xs (Ok why.NoLine) = codes "no line"
why_fields s xs (Ok why.Wanted) = codes "wanted version"
why_fields s xs (Err e) = refused_fields (number e)

-- a name and what stands behind it, as a line
abbrev pub answer_line : List ℕ → List ℕ → List ℕ
answer_line name fields = name ++ space ∷ (fields ++ line_feed ∷ [])

unfoldable pub why_line : List ℕ → List Node → List ℕ → WhyAnswer → List ℕ
why_line s xs name y = answer_line name (why_fields s xs y)

-- ---- the room of a lent buffer: all but a name and a node's name is at most 128 bytes
abbrev pub why_room : ℕ
why_room = 128
