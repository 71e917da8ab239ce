-- A lent book as the code has it, its counts and its buffers together: the buffers, whether they hold a book, and the book. Assumes nothing.
use Rattle.std.specs.Prelude.{Bool, Option}
use Rattle.book.specs.declared.lent.Lent.{Lent}
use Rattle.book.specs.Books.{Book}
use Rattle.book.specs.Layout.{Buffers, five}
use Rattle.book.specs.View.{holds, view}

abbrev pub buffers_of : Lent → Buffers
buffers_of b = five b.nodes.now b.names.now b.lines.now b.pool.now b.journal.now

abbrev pub holds_book : Lent → Bool
holds_book b = holds b.counts (buffers_of b)

abbrev pub view_of : Lent → Option Book
view_of b = view b.counts (buffers_of b)
