-- What the release desk shows of a book: its counts, its lines, and what its buffers hold. Assumes nothing.
use Rattle.std.specs.Prelude.{ℕ, ◌+◌, ◌*◌, List, [], ◌∷◌, ◌++◌, length, take}
use Rattle.numbers.specs.Signs.{line_feed, space}
use Rattle.lists.specs.Texts.{codes}
use Rattle.book.specs.declared.Counts.{Counts}
use Rattle.book.specs.Books.{Line}
use Rattle.book.specs.Layout.{Buffers, edit_width, line_width, node_width}
use Rattle.printing.specs.Printing.{answer_room, decimal, spaced}

-- ---- `counts`: `kind K nodes N names B lines L pool P edits E`
unfoldable pub counts_shown : Counts → List ℕ
counts_shown c =
    spaced (codes "kind") c.kind ++ (spaced (codes " nodes") c.nodes ++ (spaced (codes " names") c.names
    ++ (spaced (codes " lines") c.lines ++ (spaced (codes " pool") c.pool ++ (spaced (codes " edits") c.edits ++ line_feed ∷ [])))))

-- ---- `lines`: for each line `LINE NODE CLASS SECTION LANGUAGE STRUCK LENGTH OFFSET` and its bytes after a blank
unfoldable pub fields_shown : Line → List ℕ
fields_shown x =
    spaced [] x.node ++ (spaced [] x.class ++ (spaced [] x.section ++ (spaced [] x.language
    ++ (spaced [] x.struck ++ (spaced [] (length x.bytes) ++ spaced [] x.offset)))))

unfoldable pub line_shown : ℕ → Line → List ℕ
line_shown i x = decimal i ++ (fields_shown x ++ space ∷ (x.bytes ++ line_feed ∷ []))

unfoldable pub lines_shown : ℕ → List Line → List ℕ
lines_shown i [] = []
lines_shown i (x ∷ xs) = line_shown i x ++ lines_shown (i + 1) xs

-- ---- `dump`: five lines, nodes, names, lines, pool and journal, each with the used part as numbers after its name
unfoldable pub numbers_shown : List ℕ → List ℕ
numbers_shown [] = []
numbers_shown (n ∷ l) = spaced [] n ++ numbers_shown l

unfoldable pub buffer_shown : List ℕ → List ℕ → List ℕ
buffer_shown word used = word ++ (numbers_shown used ++ line_feed ∷ [])

unfoldable pub dump_shown : Counts → Buffers → List ℕ
dump_shown c b =
    buffer_shown (codes "nodes") (take (node_width * c.nodes) b.nodes) ++ (buffer_shown (codes "names") (take c.names b.names)
    ++ (buffer_shown (codes "lines") (take (line_width * c.lines) b.lines) ++ (buffer_shown (codes "pool") (take c.pool b.pool)
    ++ buffer_shown (codes "journal") (take (edit_width * c.edits) b.journal))))

-- ---- a room for whichever of these is shown: a number has ten digits at most, a byte three, each with a blank before it
unfoldable pub shown_room : Counts → ℕ
shown_room c = answer_room + (33 * c.nodes + (4 * c.names + (89 * c.lines + (4 * c.pool + 22 * c.edits))))
