-- What is printed for the lines of symbols that a book is asked for, and by the program `why` for a whole input. Assumes nothing.
use Rattle.std.specs.Prelude.{ℕ, ◌≡◌, List, [], ◌∷◌, ◌++◌, length, Option, Some, None}
use Rattle.lists.specs.Front.{front}
use Rattle.book.specs.Books.{Node, Book}
use Rattle.book.specs.Layout.{Buffers}
use Rattle.book_opening.specs.Opening.{Opening, opens, declined}
use Rattle.ranking.specs.Matching.{Name}
use Rattle.reasons.specs.Why.{why_asked}
use Rattle.input.specs.Splitting.{lines_in, mark, part_before, symbols_by}
use Rattle.printing.specs.Printing.{refused_line}
use Rattle.printing_listing.specs.Listing.{input_opening}
use Rattle.printing_why.specs.Splits.{asked_name, version_for}
use Rattle.printing_why.specs.WhyLine.{why_line}

abbrev pub nodes_of : Option Book → List Node
nodes_of (Some w) = w.nodes
nodes_of None = []

-- a name, and a wanted version, where there is one, asked of a book that the text s was opened as
unfoldable pub asked_why : List ℕ → Option Book → Name → Option (List ℕ) → List ℕ
asked_why s w n v = why_line s (nodes_of w) n.raw (why_asked w n v)

-- the line t of a symbol
unfoldable pub why_answered : List ℕ → Option Book → List ℕ → List ℕ
why_answered s w t = asked_why s w (asked_name t) (version_for w t)

-- ---- the program's output, line by line: one line a symbol
unfoldable pub whys : List ℕ → Option Book → List (List ℕ) → List (List ℕ)
whys s w [] = []
whys s w (t ∷ ts) = why_answered s w t ∷ whys s w ts

-- as verlist: "or `refused` and the number for the script"
unfoldable pub why_printed : List ℕ → Opening → List ℕ → List (List ℕ)
why_printed s (opens w) symbols = whys s (Some w) (lines_in [] symbols)
why_printed s (declined n p) symbols = refused_line n ∷ []

-- of an input whose parts are verlist's: the script, a line `%%`, and the symbols' lines
unfoldable pub why_listing : Buffers → List ℕ → List (List ℕ)
why_listing b s = why_printed (part_before s (mark s)) (input_opening b s) (symbols_by s (mark s))

-- ---- lines that are printed one behind the other
unfoldable pub joined : List (List ℕ) → List ℕ
joined [] = []
joined (t ∷ ts) = t ++ joined ts

-- a buffer d, at the start of which each of them was put
unfoldable pub put_over : List (List ℕ) → List ℕ → List ℕ
put_over [] d = d
put_over (t ∷ ts) d = put_over ts (front t d)

-- they are printed from the buffer d, r bytes in all, and l is left there
abbrev pub PrintsLines : List (List ℕ) → List ℕ → ℕ → List ℕ → Type 0
PrintsLines ts d r l = (r ≡ length (joined ts)) × (l ≡ put_over ts d)
