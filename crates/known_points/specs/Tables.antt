-- How known points are told: texts, all of ASCII, that are opened in buffers with room for so much, and names. The tables of known points, of known histories
-- and of sessions at the desk are told so; proofs/Computing.antt has how they are proved. Assumes nothing.
use Rattle.std.specs.Prelude.{ℕ, ◌*◌}
use Prim.Native.String.{String}
use Rattle.lists.specs.Texts.{codes}
use Rattle.packing.specs.Padding.{zeros}
use Rattle.book.specs.Layout.{Buffers, edit_width, five, line_width, node_width}
use Rattle.book_opening.specs.Opening.{Opening, as_list, as_script, opening}
use Rattle.ranking.specs.Matching.{Name, name_of, plain}

-- buffers with room for so many nodes, bytes of names, lines, bytes of lines, and edits
abbrev pub rooms : ℕ → ℕ → ℕ → ℕ → ℕ → Buffers
rooms nodes names lines pool edits = five (zeros (node_width * nodes)) (zeros names) (zeros (line_width * lines)) (zeros pool) (zeros (edit_width * edits))

-- the opening of a version script in them, and that of an export list
abbrev pub opened_script : Buffers → String → Opening
opened_script b t = opening as_script b (codes t)

abbrev pub opened_list : Buffers → String → Opening
opened_list b t = opening as_list b (codes t)

-- a name that no demangler changes, and one with its demangled name
abbrev pub symbol : String → Name
symbol t = plain (codes t)

abbrev pub demangles : String → String → Name
demangles raw t = name_of (codes raw) (codes t)
