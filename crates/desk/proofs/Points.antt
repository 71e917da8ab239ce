-- Sessions at the release desk, by computing: lines of its input, one after another on one book, and what each prints. Assumes nothing.
use Prim.Native.Nat.{ℕ}
use Prim.Native.String.{String}
use mathlib.Core.Path.{◌≡◌}
use mathlib.Core.List.{List, [], ◌∷◌, map}
use Rattle.lists.specs.Texts.{codes}
use Rattle.book.specs.Layout.{Buffers}
use Rattle.book_opening.specs.Opening.{Opening, left, told}
use Rattle.known_points.specs.Tables.{opened_list, opened_script, rooms}
use Rattle.known_points.proofs.Computing.{computing}
use Rattle.input.specs.Positions.{position, position_from}
use Rattle.input.specs.Splitting.{demangled_part, name_part, symbol_part, wanted_part}
use Rattle.printing.specs.Printing.{decimal, numbered, refused_answer, refused_fields, spaced, spelled}
use Rattle.reasons.specs.Why.{rust_deciding, why_asked, why_of}
use Rattle.printing_symbols.specs.Lines.{fields, index_field, locality_field, symbol_line}
use Rattle.printing_book.specs.Shown.{buffer_shown, counts_shown, dump_shown, fields_shown, line_shown, lines_shown, numbers_shown}
use Rattle.printing_why.specs.Splits.{asked_name}
use Rattle.printing_why.specs.WhyLine.{class_word, head_told, language_word, marks_told, name_told, offset_told, place_told, position_told}
use Rattle.printing_why.specs.WhyLine.{reason_told, section_word, why_fields, why_line}
use Rattle.printing_why.specs.Whys.{asked_why, why_answered}
use Rattle.desk_commands.specs.Parts.{digit, digits, number_at, number_of, worth}
use Rattle.desk_commands.specs.Commands.{add_command, command_of, field_at, question_of, strike_command}
use Rattle.desk.specs.Answers.{Step, telling}
use Rattle.desk.specs.Asked.{asked, member_asked, member_line, version_asked_line}
use Rattle.desk.specs.Edits.{done_said, edit_asked, edit_step, said}
use Rattle.desk.specs.Questions.{book_shown, question_step, question_told}
use Rattle.desk.specs.Desk.{line_step, step}

-- what is printed for each of the lines, each on what the one before left, behind the opening of the text x
unfoldable printed_from : List ℕ → Step → List String → List (List ℕ)
printed_from x s [] = []
printed_from x s (t ∷ ts) = let n = line_step x s.counts s.left (codes t) in n.printed ∷ printed_from x n ts

-- the same behind an opening
abbrev behind : Buffers → Opening → Step
behind b o = telling (told o).counts (left b o) []

abbrev script_text : String
script_text = "V { global: a; local: *; };\n"

abbrev script : Step
script = behind (rooms 2 1 3 2 3) (opened_script (rooms 2 1 3 2 3) script_text)

abbrev list_text : String
list_text = "{ f; };"

abbrev export_list : Step
export_list = behind (rooms 1 0 4 4 3) (opened_list (rooms 1 0 4 4 3) list_text)

abbrev cxx_text : String
cxx_text = "{ extern \"C++\" {\n f(int); }; local: *; };"

abbrev cxx : Step
cxx = behind (rooms 1 0 2 6 1) (opened_script (rooms 1 0 2 6 1) cxx_text)

abbrev no_book : Step
no_book = behind (rooms 0 0 0 0 0) (opened_script (rooms 0 0 0 0 0) "")

abbrev on_script : List (String × String)
on_script =
    ("ask a", "a 2 G\n")
    ∷ ("ask b", "b 2 L\n")
    ∷ ("ask b@W", "b ! 10\n")
    ∷ ("why a", "a line 0 class Exact node 1 (V) section global language general offset 13 at 1:13\n")
    ∷ ("why b", "b line 1 class All node 1 (V) section local language general offset 23 at 1:23\n")
    ∷ ("why b@V", "b wanted version\n")
    ∷ ("why b@", "b wanted version\n")
    ∷ ("why b@W", "b ! 10\n")
    ∷ ("strike 0", "struck 0\n")
    ∷ ("why a", "a line 1 class All node 1 (V) section local language general offset 23 at 1:23\n")
    ∷ ("ask a", "a 2 L\n")
    ∷ ("strike 0", "! 11\n")
    ∷ ("counts", "kind 0 nodes 2 names 1 lines 2 pool 1 edits 1\n")
    ∷ ("lines", "0 1 0 0 0 1 1 13 a\n1 1 4 1 0 0 0 23 \n")
    ∷ ("dump", "nodes 0 0 0 0 1 0\nnames 86\nlines 1 32 0 1 13 1 18 1 0 23\npool 97\njournal 2 0\n")
    ∷ ("undo", "undone\n")
    ∷ ("undo", "! 12\n")
    ∷ ("add 1 0 0 b", "added 2\n")
    ∷ ("ask b", "b 2 G\n")
    ∷ ("why b", "b line 2 class Exact node 1 (V) section global language general offset 0\n")
    ∷ ("add 1 0 0 c", "! 8\n")
    ∷ ("strike 0", "struck 0\n")
    ∷ ("settle", "settled 2\n")
    ∷ ("lines", "0 1 4 1 0 0 0 23 \n1 1 0 0 0 0 1 0 b\n")
    ∷ ("symbol f;", "! 13\n")
    ∷ ("nonsense", "?\n")
    ∷ []

abbrev on_export_list : List (String × String)
on_export_list =
    ("ask f", "f in\n")
    ∷ ("ask g", "g out\n")
    ∷ ("why f@V", "f line 0 class Exact node 0 () section global language general offset 3 at 1:3\n")
    ∷ ("why g", "g no line\n")
    ∷ ("symbol g;", "added 1\n")
    ∷ ("ask g@V", "g in\n")
    ∷ ("symbol! h", "added 1\n")
    ∷ ("counts", "kind 2 nodes 1 names 0 lines 3 pool 3 edits 2\n")
    ∷ ("lines", "0 0 0 0 0 0 1 3 f\n1 0 0 0 0 0 1 0 g\n2 0 0 0 0 0 1 0 h\n")
    ∷ []

-- a C++ line sees the demangled name, which stands behind a TAB
abbrev on_cxx : List (String × String)
on_cxx =
    ("ask _Z1fi", "_Z1fi - L\n")
    ∷ ("ask _Z1fi\tf(int)", "_Z1fi - G\n")
    ∷ ("why _Z1fi", "_Z1fi line 1 class All node 0 () section local language general offset 37 at 2:20\n")
    ∷ ("why _Z1fi\tf(int)", "_Z1fi line 0 class Exact node 0 () section global language C++ offset 19 at 2:2\n")
    ∷ ("why _Z1fi@\tf(int)", "_Z1fi wanted version\n")
    ∷ []

abbrev on_no_book : List (String × String)
on_no_book =
    ("ask a", "a ! 14\n")
    ∷ ("why a", "a ! 14\n")
    ∷ ("strike 0", "! 14\n")
    ∷ ("undo", "! 14\n")
    ∷ ("settle", "! 14\n")
    ∷ ("counts", "! 14\n")
    ∷ ("lines", "! 14\n")
    ∷ ("dump", "! 14\n")
    ∷ ("nonsense", "?\n")
    ∷ []

-- a session: the lines, and beside each what it prints
abbrev Session : String → Step → List (String × String) → Type 0
Session x s rows = printed_from (codes x) s (map (λ (p : String × String). p.0) rows) ≡ map (λ (p : String × String). codes p.1) rows

record Points : Type 0 where
  script_points : Session script_text script on_script
  list_points : Session list_text export_list on_export_list
  cxx_points : Session cxx_text cxx on_cxx
  none_points : Session "" no_book on_no_book

points : Points
unfolding computing position position_from demangled_part name_part symbol_part wanted_part decimal numbered refused_answer refused_fields spaced spelled
    fields index_field locality_field symbol_line rust_deciding why_asked why_of
    class_word head_told language_word marks_told name_told offset_told place_told position_told reason_told section_word why_fields why_line
    asked_name asked_why why_answered
    buffer_shown counts_shown dump_shown fields_shown line_shown lines_shown numbers_shown
    digit digits number_at number_of worth add_command command_of field_at question_of strike_command
    asked member_asked member_line version_asked_line done_said edit_asked edit_step said book_shown question_step question_told line_step step printed_from
points = search
