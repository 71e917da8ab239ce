-- What a book must be besides its packing: 01's row 14, and what 02 adds to it in request 02. Assumes nothing.
use Rattle.std.specs.Prelude.{ℕ, ◌+◌, List, [], ◌∷◌, ◌++◌, Bool, true, false, cond, ◌&&◌, ◌||◌, not, eqb, leb, ltb, length, get_or, Option, Some, None}
use Rattle.std.specs.Result.{is_ok}
use Rattle.numbers.specs.Classes.{all_class, exact_class, nonstar_class, star_class}
use Rattle.numbers.specs.Limits.{over, script_limit, token_limit}
use Rattle.numbers.specs.Marks.{general, global, is_language, is_section, local}
use Rattle.numbers.specs.Signs.{closing_brace, opening_brace, semicolon}
use Rattle.lists.specs.Same.{same}
use Rattle.lists.specs.Each.{any, every}
use Rattle.linker_script.specs.Skip.{skips}
use Rattle.numbers.specs.declared.Edition.{Edition}
use Rattle.pattern.specs.Patterns.{refusal}
use Rattle.pattern.specs.Storing.{stored}
use Rattle.reading_tokens.specs.Tokens.{named}
use Rattle.book.specs.declared.Frame.{Frame}
use Rattle.book.specs.Books.{Node, Line, Edit, Book, add, edition_of, export, first_named, no_edits, no_node, regular, rust, strike}
use Rattle.book.specs.Edits.{journal_fits}

-- ---- a line, of a book with that frame
-- "a field out of range": its node, its class, section and language, its mark; "All (length 0)"; "token … 65,536"
unfoldable pub in_range : ℕ → Line → Bool
in_range nodes x =
    ltb x.node nodes
    && (leb x.class all_class
    && (is_section x.section
    && (is_language x.language
    && (leb x.struck 1
    && (leb (length x.bytes) token_limit
    && (not (eqb x.class all_class) || eqb (length x.bytes) 0))))))

-- "a stored glob that 5 or 6 refuses or that storing would change"
unfoldable pub glob_stands : Edition → List ℕ → Bool
glob_stands e b = is_ok (refusal e b) && same (stored e b) b

unfoldable pub content_good : Edition → Line → Bool
content_good e x = not (eqb x.class nonstar_class || eqb x.class star_class) || glob_stands e x.bytes

-- "a Rust kind … whose lines break its rule": "only Exact lines, outside extern, as globals"; the lines of an export list are global
unfoldable pub kind_allows : ℕ → Line → Bool
kind_allows kind x =
    cond (eqb kind rust) (not (eqb x.section global) || (eqb x.class exact_class && eqb x.language general))
    (cond (eqb kind export) (eqb x.section global)
    true)

-- request 02: "14 also covers an offset over 1,048,576", which no token of a script has
unfoldable pub offset_good : Line → Bool
offset_good x = leb x.offset script_limit

unfoldable pub line_ok : Frame → Line → Bool
line_ok f x = in_range f.nodes x && (offset_good x && (kind_allows f.kind x && content_good (edition_of f) x))

unfoldable pub edit_ok : Edit → Bool
edit_ok e = eqb e.what add || eqb e.what strike

-- ---- nodes
-- the shortest that a script has of a node with the name t and the parent text u: "a name (…), skip, body, parent text up to `;` …, `;`, skip"
abbrev pub spelled : List ℕ → List ℕ → List ℕ
spelled t u = t ++ opening_brace ∷ closing_brace ∷ (u ++ semicolon ∷ [])

-- the shortest script that gives the name t, `t{};`; and that gives a node of the name t a parent of the name u, `u{};t{}u;`
abbrev pub name_script : List ℕ → List ℕ
name_script t = spelled t []

abbrev pub parent_script : List ℕ → List ℕ → List ℕ
parent_script t u = spelled u [] ++ spelled t u

-- "a node name … that no reading gives": a name is one or more bytes that a name has, without a beginning that the skip before it takes, and the shortest
-- script that gives it is not "over its limit". That a reading gives each such name, and no other: book_opened/specs/Given.antt
unfoldable pub name_good : List ℕ → Bool
name_good t = ltb 0 (length t) && (not (over script_limit (name_script t)) && (every named t && not (skips t 0)))

-- a byte of a name that can stand before a `;`
abbrev pub no_semicolon : ℕ → Bool
no_semicolon b = not (eqb b semicolon)

-- what was found has that number
abbrev pub is_number : ℕ → Option ℕ → Bool
is_number p (Some i) = eqb i p
is_number p None = false

-- node i's name
abbrev pub name_at : List Node → ℕ → List ℕ
name_at all i = (get_or all i no_node).name

-- "or parent that no reading gives": none, or an earlier node, the first of its name, whose name can stand before a `;`, and the shortest script that gives a
-- node of node i's name this parent is not "over its limit"
unfoldable pub parent_good : List Node → ℕ → ℕ → Bool
parent_good all i p =
    eqb p 0
    || (ltb p i
    && (not (over script_limit (parent_script (name_at all i) (name_at all p)))
    && (is_number p (first_named all 0 (name_at all p))
    && every no_semicolon (name_at all p))))

-- the nodes from number i on, among all
unfoldable pub named_good : List Node → ℕ → List Node → Bool
named_good all i [] = true
named_good all i (x ∷ xs) = name_good x.name && (parent_good all i x.parent && named_good all (i + 1) xs)

-- "Node 0's name, like an export list's, has length 0", and it has no parent
unfoldable pub nodes_good : List Node → Bool
nodes_good [] = false
nodes_good (x ∷ xs) = eqb (length x.name) 0 && (eqb x.parent 0 && named_good (x ∷ xs) 1 xs)

-- ---- the whole
-- "a bare `*;` among its locals"
unfoldable pub bare_star : Line → Bool
bare_star x = eqb x.class all_class && (eqb x.section local && eqb x.language general)

unfoldable pub some_star : List Line → Bool
some_star xs = any bare_star xs

-- a Regular book has any nodes; the other kinds have node 0 alone, and "a Rust kind with an edit or whose lines break its rule" is none
unfoldable pub kind_good : Book → Bool
kind_good w =
    cond (eqb w.kind regular) true
    (eqb (length w.nodes) 1
    && cond (eqb w.kind rust) (no_edits w.edits && some_star w.lines) (eqb w.kind export))

unfoldable pub sane : Book → Bool
sane w = nodes_good w.nodes && (kind_good w && journal_fits w.edits w.lines)
