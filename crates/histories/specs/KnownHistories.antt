-- Known histories of a trial book: texts that are opened in small buffers, calls, the numbers that they answer, and what names get then. Each of them goes
-- through the definitions that the functions equal: the counts and the buffers that a call leaves are what the next one is lent, and each question asks the
-- book that they hold.
-- proofs/KnownHistories.antt proves the table.
-- Assumes nothing.
use Rattle.std.specs.Prelude.{ℕ, ◌≡◌, List, [], ◌∷◌, Bool, true, false, Some, None, Result, Ok}
use Prim.Native.String.{String}
use Rattle.numbers.specs.Marks.{cxx, general, global, local}
use Rattle.lists.specs.Texts.{codes}
use Rattle.numbers.specs.Classes.{exact_class}
use Rattle.numbers.specs.Editions.{reld}
use Rattle.numbers.specs.declared.Edition.TheVariants.{Reld}
use Rattle.reading_cursors.specs.Places.{at_symbol}
use Rattle.reading.specs.Events.{reading}
use Rattle.book.specs.Books.{Line, new_line}
use Rattle.book.specs.Layout.{Buffers}
use Rattle.book.specs.View.{view}
use Rattle.ranking.specs.Matching.{Name}
use Rattle.numbers.specs.declared.Refusal.{Refusal}
use Rattle.lookups.specs.declared.answers.Locality.TheVariants.{Global, Local}
use Rattle.lookups.specs.Lookups.{LocalityAnswer, VersionAnswer, index, locality_asked, version_asked}
use Rattle.export_list.specs.Membership.{contains_asked}
use Rattle.known_points.specs.Tables.{demangles, opened_list, opened_script, rooms, symbol}
use Rattle.histories.specs.Histories.{Call, adds, strikes, undoes, settles, adds_symbol, Lent, Told, edits_left, history, run, undos}
use Rattle.histories.specs.Demand.{all_room, lent_opening, lines_kept}

-- ---- how the table is told
-- what the opening of a version script leaves, and that of an export list
abbrev pub script : Buffers → String → Lent
script b t = lent_opening b (opened_script b t)

abbrev pub export_list : Buffers → String → Lent
export_list b t = lent_opening b (opened_list b t)

-- the numbers that calls answer, in turn
unfoldable pub numbers : List Told → List ℕ
numbers [] = []
numbers (x ∷ xs) = x.number ∷ numbers xs

abbrev pub answers : Lent → List Call → List ℕ
answers x ks = numbers (history x ks)

-- what a name gets: a version, which is an index or none, and a locality
pub record Gets (y : Lent) (n : Name) (v : VersionAnswer) (l : LocalityAnswer) : Type 0 where
  pub version : version_asked (view y.counts y.buffers) n None ≡ v
  pub locality : locality_asked (view y.counts y.buffers) n ≡ l

-- whether it is in an export list
abbrev pub contains : Lent → String → Result Bool Refusal
contains y t = contains_asked (view y.counts y.buffers) (symbol t)

-- ---- the script of 01's example: lines 0 `haze_*`, 1 `*`, 2 `haze_month`
abbrev pub haze : Lent
haze = script (rooms 3 12 3 16 1) "HAZE_1 { global: haze_*; local: *; };\nHAZE_2 { global: haze_month; } HAZE_1;\n"

-- "haze_month 3 G", "haze_day 2 G", "main 2 L"; "With line 0 struck, haze_day is 2 L; after undo 2 G."
pub record Haze : Type 0 where
  pub month : Gets haze (symbol "haze_month") (index 3) (Ok (Some Global))
  pub day : Gets haze (symbol "haze_day") (index 2) (Ok (Some Global))
  pub other : Gets haze (symbol "main") (index 2) (Ok (Some Local))
  pub done : answers haze (strikes 0 ∷ undoes ∷ []) ≡ 0 ∷ 0 ∷ []
  pub struck : Gets (run haze (strikes 0 ∷ [])) (symbol "haze_day") (index 2) (Ok (Some Local))
  pub undone : Gets (run haze (strikes 0 ∷ undoes ∷ [])) (symbol "haze_day") (index 2) (Ok (Some Global))
  pub back : run haze (strikes 0 ∷ undoes ∷ []) ≡ haze

-- ---- a node without a line, and adds to it
abbrev pub empty_node : Lent
empty_node = script (rooms 2 1 2 4 4) "V {};"

abbrev pub add_f : Call
add_f = adds 1 global general (codes "f ")

abbrev pub add_g : Call
add_g = adds 1 global general (codes "g")

abbrev pub add_all : Call
add_all = adds 1 local general (codes "*")

abbrev pub add_cxx : Call
add_cxx = adds 1 local cxx (codes "f()")

-- "Add (node, section, language, token) trims and classes the token as in a script, any bytes or none, and appends"; "undo takes back the latest edit not yet
-- undone"
pub record Added : Type 0 where
  pub before : Gets empty_node (symbol "f") (Ok None) (Ok None)
  pub done : answers empty_node (add_f ∷ add_all ∷ undoes ∷ undoes ∷ []) ≡ 0 ∷ 0 ∷ 0 ∷ 0 ∷ []
  pub one : Gets (run empty_node (add_f ∷ [])) (symbol "f") (index 2) (Ok (Some Global))
  pub one_only : Gets (run empty_node (add_f ∷ [])) (symbol "g") (Ok None) (Ok None)
  pub two : Gets (run empty_node (add_f ∷ add_all ∷ [])) (symbol "g") (index 2) (Ok (Some Local))
  pub undone : Gets (run empty_node (add_f ∷ add_all ∷ undoes ∷ [])) (symbol "g") (Ok None) (Ok None)
  pub kept : Gets (run empty_node (add_f ∷ add_all ∷ undoes ∷ [])) (symbol "f") (index 2) (Ok (Some Global))
  pub back : run empty_node (add_f ∷ add_all ∷ undoes ∷ undoes ∷ []) ≡ empty_node

-- "C++ lines see the demangled name, others the raw one."
pub record Demangled : Type 0 where
  pub done : answers empty_node (add_cxx ∷ []) ≡ 0 ∷ []
  pub demangled : Gets (run empty_node (add_cxx ∷ [])) (demangles "_Z1fv" "f()") (index 2) (Ok (Some Local))
  pub raw : Gets (run empty_node (add_cxx ∷ [])) (demangles "f()" "_Z1fv") (Ok None) (Ok None)

-- "and an undone add's number is given again": g's line is 0 then, and can be struck
pub record NumberAgain : Type 0 where
  pub done : answers empty_node (add_f ∷ undoes ∷ add_g ∷ strikes 0 ∷ []) ≡ 0 ∷ 0 ∷ 0 ∷ 0 ∷ []
  pub added : Gets (run empty_node (add_f ∷ undoes ∷ add_g ∷ [])) (symbol "g") (index 2) (Ok (Some Global))
  pub struck : Gets (run empty_node (add_f ∷ undoes ∷ add_g ∷ strikes 0 ∷ [])) (symbol "g") (Ok None) (Ok None)

-- ---- a script with as many lines as there is room for: lines 0 `f`, 1 `g`; and an add
abbrev pub full : Lent
full = script (rooms 2 1 2 2 3) "V { f; g; };"

abbrev pub add_h : Call
add_h = adds 1 local general (codes "h")

-- "Settle drops struck lines, packs and renumbers the rest in order, empties the journal": an add that was refused 8, "a row … room would be passed", is done
-- behind it, there is no edit to undo, and g's line is 0
pub record Settled : Type 0 where
  pub done : answers full (add_h ∷ strikes 0 ∷ add_h ∷ settles ∷ add_h ∷ []) ≡ 8 ∷ 0 ∷ 8 ∷ 0 ∷ 0 ∷ []
  pub new : Gets (run full (strikes 0 ∷ settles ∷ add_h ∷ [])) (symbol "h") (index 2) (Ok (Some Local))
  pub dropped : Gets (run full (strikes 0 ∷ settles ∷ add_h ∷ [])) (symbol "f") (Ok None) (Ok None)
  pub left : Gets (run full (strikes 0 ∷ settles ∷ add_h ∷ [])) (symbol "g") (index 2) (Ok (Some Global))
  pub no_edit : answers full (strikes 0 ∷ settles ∷ undoes ∷ strikes 0 ∷ strikes 1 ∷ []) ≡ 0 ∷ 0 ∷ 12 ∷ 0 ∷ 11 ∷ []
  pub renumbered : Gets (run full (strikes 0 ∷ settles ∷ strikes 0 ∷ [])) (symbol "g") (Ok None) (Ok None)

-- "with none struck it changes nothing": the edit can still be undone
pub record NothingStruck : Type 0 where
  pub done : answers empty_node (add_f ∷ settles ∷ undoes ∷ []) ≡ 0 ∷ 0 ∷ 0 ∷ []
  pub same : run empty_node (add_f ∷ settles ∷ []) ≡ run empty_node (add_f ∷ [])

-- ---- "a bare `*;` among its locals (outside extern) and only Exact lines, outside extern, as globals": the Rust kind
abbrev pub rust_kind : Lent
rust_kind = script (rooms 1 0 3 2 1) "{ global: f; local: *; };"

-- "Version is always none"; "Its locality … is global for listed names, else local."
pub record RustKind : Type 0 where
  pub listed : Gets rust_kind (symbol "f") (Ok None) (Ok (Some Global))
  pub other : Gets rust_kind (symbol "g") (Ok None) (Ok (Some Local))

-- ---- numbers that say no; what is refused changes nothing
-- 11 "no such node, section, language or standing line", 12 "undo with no edit", 13 "add or strike on Rust kind", "`add_symbol` on a version book"
pub record Refusals : Type 0 where
  pub no_edit : answers full (undoes ∷ strikes 0 ∷ undoes ∷ undoes ∷ []) ≡ 12 ∷ 0 ∷ 0 ∷ 12 ∷ []
  pub no_line : answers full (strikes 1 ∷ strikes 1 ∷ strikes 2 ∷ []) ≡ 0 ∷ 11 ∷ 11 ∷ []
  pub no_node : answers full (adds 2 global general (codes "f") ∷ []) ≡ 11 ∷ []
  pub no_section : answers full (adds 1 2 general (codes "f") ∷ []) ≡ 11 ∷ []
  pub no_language : answers full (adds 1 global 2 (codes "f") ∷ []) ≡ 11 ∷ []
  pub version_book : answers full (adds_symbol (codes "h;") false ∷ []) ≡ 13 ∷ []
  pub on_rust_kind : answers rust_kind (adds 0 global general (codes "g") ∷ strikes 0 ∷ []) ≡ 13 ∷ 13 ∷ []
  pub unchanged : run full (undoes ∷ add_h ∷ adds 1 2 general (codes "f") ∷ strikes 2 ∷ adds_symbol (codes "h;") false ∷ []) ≡ full
  pub rust_unchanged : run rust_kind (adds 0 global general (codes "g") ∷ strikes 0 ∷ []) ≡ rust_kind

-- ---- an export list, with room for one line more, and with room for more; and texts of `add_symbol`
abbrev pub one_more : Lent
one_more = export_list (rooms 1 0 2 4 3) "{ f; };"

abbrev pub many_more : Lent
many_more = export_list (rooms 1 0 4 4 3) "{ f; };"

abbrev pub symbol_g : Call
symbol_g = adds_symbol (codes "g;") false

abbrev pub text_ab : List ℕ
text_ab = codes "extern \"C\" { a; b; };"

abbrev pub symbols_ab : Call
symbols_ab = adds_symbol text_ab false

abbrev pub symbols_bad : Call
symbols_bad = adds_symbol (codes "extern \"C\" { a; b; [ };") false

-- "A name is in an export list exactly when some line matches."
pub record Symbols : Type 0 where
  pub listed : contains one_more "f" ≡ Ok true
  pub other : contains one_more "g" ≡ Ok false
  pub done : answers one_more (symbol_g ∷ undoes ∷ []) ≡ 0 ∷ 0 ∷ []
  pub added : contains (run one_more (symbol_g ∷ [])) "g" ≡ Ok true
  pub undone : contains (run one_more (symbol_g ∷ undoes ∷ [])) "g" ≡ Ok false

-- "`add_symbol` on an export list is one add per line, all or none."; 8 "a row … room would be passed", 6 "bracket not closed"
pub record AllOrNone : Type 0 where
  pub done : answers many_more (symbols_ab ∷ []) ≡ 0 ∷ []
  pub first : contains (run many_more (symbols_ab ∷ [])) "a" ≡ Ok true
  pub second : contains (run many_more (symbols_ab ∷ [])) "b" ≡ Ok true
  pub one_undone : contains (run many_more (symbols_ab ∷ undoes ∷ [])) "a" ≡ Ok true
  pub no_row : answers one_more (symbols_bad ∷ []) ≡ 8 ∷ []
  pub no_row_none : run one_more (symbols_bad ∷ []) ≡ one_more
  pub bad_bracket : answers many_more (symbols_bad ∷ []) ≡ 6 ∷ []
  pub bad_bracket_none : run many_more (symbols_bad ∷ []) ≡ many_more

-- "With `without_semicolon` a bare token goes to the first `}` (at least one byte); where there is none it is all the text"; else 2 "no reading rule fits"
pub record WithoutSemicolon : Type 0 where
  pub done : answers one_more (adds_symbol (codes "h") false ∷ adds_symbol (codes "h") true ∷ []) ≡ 2 ∷ 0 ∷ []
  pub added : contains (run one_more (adds_symbol (codes "h") true ∷ [])) "h" ≡ Ok true

-- ---- how many edits calls leave to be undone: refused ones are none, an undo takes one back, and of an `add_symbol` each line is one
pub record EditsLeft : Type 0 where
  pub undone : edits_left 0 (history empty_node (add_f ∷ add_all ∷ undoes ∷ add_g ∷ [])) ≡ 2
  pub refused : edits_left 0 (history full (add_h ∷ strikes 0 ∷ strikes 0 ∷ [])) ≡ 1
  pub lines : edits_left 0 (history many_more (symbols_ab ∷ symbols_bad ∷ [])) ≡ 2
  pub back : run many_more (symbols_ab ∷ symbols_bad ∷ undos 2) ≡ many_more
  pub one_call : edits_left 0 (history many_more (symbols_ab ∷ [])) ≡ 2
  pub one_call_back : run many_more (symbols_ab ∷ undos 2) ≡ many_more

-- the lines of a text, which have room in the one book, behind its line, and in the other not
abbrev pub exact_line : String → Line
exact_line t = new_line 0 global general exact_class (codes t)

abbrev pub lines_ab : List Line
lines_ab = exact_line "a" ∷ exact_line "b" ∷ []

pub record RoomsForAll : Type 0 where
  pub kept : lines_kept Reld text_ab (reading reld at_symbol text_ab).events ≡ Some lines_ab
  pub room : all_room many_more.buffers (exact_line "f" ∷ []) [] lines_ab ≡ true
  pub no_row : all_room one_more.buffers (exact_line "f" ∷ []) [] lines_ab ≡ false

-- the table
pub record KnownHistories : Type 0 where
  pub haze_struck : Haze
  pub added : Added
  pub demangled : Demangled
  pub number_again : NumberAgain
  pub settled : Settled
  pub nothing_struck : NothingStruck
  pub rust : RustKind
  pub refusals : Refusals
  pub symbols : Symbols
  pub all_or_none : AllOrNone
  pub without_semicolon : WithoutSemicolon
  pub left_to_undo : EditsLeft
  pub rooms_for_all : RoomsForAll
