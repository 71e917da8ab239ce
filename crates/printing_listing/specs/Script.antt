-- What verlist prints for a script and its symbols' lines, as 01 has it, and what is told of it. Assumes nothing.
use Rattle.std.specs.Prelude.{ℕ, ◌≡◌, List, [], ◌++◌, cond, eqb, length, Option, Some}
use Rattle.lists.specs.Front.{front}
use Rattle.book.specs.Books.{Book}
use Rattle.book.specs.Layout.{Buffers}
use Rattle.book_opening.specs.Opening.{Opening, opens, declined, left, told}
use Rattle.printing_listing.specs.declared.script.Listed.{Listed}
use Rattle.input.specs.Splitting.{lines_in}
use Rattle.printing.specs.Printing.{refused_line}
use Rattle.printing_symbols.specs.Lines.{counts_answered}
use Rattle.printing_listing.specs.SymbolLines.{answers}

-- "It prints version and parent counts, then …", "one symbol a line (a last LF may lack)": of a book, if it is one
abbrev pub book_printed : Option Book → List ℕ → List ℕ
book_printed w symbols = counts_answered w ++ answers w (lines_in [] symbols)

-- "or `refused` and the number for the script"
unfoldable pub printed : Opening → List ℕ → List ℕ
printed (opens w) symbols = book_printed (Some w) symbols
printed (declined n p) symbols = refused_line n

-- what is printed, by what is told of an opening: its refusal, or 0, and the book that the buffers hold then
unfoldable pub opened_printed : ℕ → Option Book → List ℕ → List ℕ
opened_printed refusal w symbols = cond (eqb refusal 0) (book_printed w symbols) (refused_line refusal)

-- how many bytes are printed, and the script's refusal with its place, or 0
abbrev pub with_refusal : ℕ → Opening → Listed
with_refusal n o = record { length = n; refusal = (told o).refusal; place = (told o).place }

-- the same of what is printed for an opening
abbrev pub printed_told : Opening → List ℕ → Listed
printed_told o symbols = with_refusal (length (printed o symbols)) o

-- what is printed for the opening o of the buffers b stands at the front of `out`, r is told of it, and the buffers are as the opening leaves them
abbrev pub Prints : Buffers → (Buffers → Opening) → List ℕ → List ℕ → Listed → List ℕ → Buffers → Type 0
Prints b o symbols out r out' b' = (r ≡ printed_told (o b) symbols) × (out' ≡ front (printed (o b) symbols) out) × (b' ≡ left b (o b))
