-- What an edit comes to: another book, or the number that says no; what is answered then, and what is left in the lent buffers. Assumes nothing.
use Rattle.std.specs.Prelude.{ℕ, ◌≡◌, Option, Result, Ok, Err}
use Rattle.book.specs.declared.Counts.{Counts}
use Rattle.book.specs.Books.{Book}
use Rattle.book.specs.Layout.{Buffers, counts_of, laid_out}
use Rattle.book.specs.View.{book_of, view}

pub data Change : Type 0 where
  to : Book → Change
  no : ℕ → Change

-- the counts of the book, or the number
unfoldable pub edited : Change → Result Counts ℕ
edited (to w) = Ok (counts_of w)
edited (no n) = Err n

-- the book laid out in the same buffers; what is refused changes nothing
unfoldable pub after : Buffers → Change → Buffers
after b (to w) = laid_out b w
after b (no n) = b

-- an edit of the buffers b that comes to x: r is answered, and b' left
abbrev pub Leaves : Buffers → Change → Result Counts ℕ → Buffers → Type 0
Leaves b x r b' = (r ≡ edited x) × (b' ≡ after b x)

-- an edit that is asked of what b holds with the counts c
abbrev pub Answers : Counts → Buffers → (Buffers → Option Book → Change) → Result Counts ℕ → Buffers → Type 0
Answers c b ask = Leaves b (ask b (view c b))

-- an edit that is made of a book that is known to be there
abbrev pub Makes : Counts → Buffers → (Buffers → Book → Change) → Result Counts ℕ → Buffers → Type 0
Makes c b make = Leaves b (make b (book_of c b))

-- the paper's number of an answer, 0 where the edit is done
abbrev pub edit_refusal : Result Counts ℕ → ℕ
edit_refusal (Ok c) = 0
edit_refusal (Err n) = n

-- the counts that are lent to an edit, behind it
unfoldable pub counts_after : Counts → Change → Counts
counts_after c (to w) = counts_of w
counts_after c (no n) = c

-- an edit that is asked of what b holds with lent counts: r is answered as a number, the counts c become c' and the buffers b'
abbrev pub Updates : Counts → Buffers → (Buffers → Option Book → Change) → ℕ → Counts → Buffers → Type 0
Updates c b ask r c' b' = (r ≡ edit_refusal (edited (ask b (view c b)))) × (c' ≡ counts_after c (ask b (view c b))) × (b' ≡ after b (ask b (view c b)))
