-- Demand 3 of any book that is lent, whatever was done to it before and in whatever rooms; and of a book that is moved to other rooms. Assumes nothing.
use Rattle.std.specs.Prelude.{ℕ, ◌*◌, ◌≤◌, ◌≡◌, List, true, false, eqb, length, drop, take, Some}
use Rattle.packing.specs.Padding.{all_zero}
use Rattle.book.specs.declared.Counts.{Counts}
use Rattle.book.specs.Books.{Book, book_frame, edition_of, rust}
use Rattle.book.specs.Layout.{Buffers, edit_width, line_width, node_width}
use Rattle.book.specs.View.{view}
use Rattle.histories.specs.Histories.{Call, Desk, Lent, desk_of_book, history, leads, run}
use Rattle.histories.specs.Demand.{Holds}

-- the desk that calls lead to from the desk d, lent x at first
abbrev pub desk_from : Book → Desk → Lent → List Call → Desk
desk_from w d x ks = leads (edition_of (book_frame w)) d (history x ks)

-- ---- counts and buffers that hold a book, not of the Rust kind: any sequence of calls goes on from the desk of this book, as from an opening
abbrev pub Resumed : Type 0
Resumed =
    (x : Lent) (w : Book) (ks : List Call) → view x.counts x.buffers ≡ Some w → eqb w.kind rust ≡ false
    → Holds x.buffers w (run x ks) (desk_from w (desk_of_book w) x ks)

-- ---- other rooms
-- m has room for the first n numbers of l, has these, and zeros behind them. It may be shorter than l or longer
pub record Copied (n : ℕ) (l m : List ℕ) : Type 0 where
  pub room : n ≤ length m
  pub same : take n m ≡ take n l
  pub rest : all_zero (drop n m) ≡ true

-- the buffers b' have what a book with the counts c fills of b, row by row and byte by byte: three numbers a node, the names' bytes, five numbers a line, the
-- lines' bytes, two numbers an edit
pub record MovedTo (c : Counts) (b b' : Buffers) : Type 0 where
  pub nodes : Copied (node_width * c.nodes) b.nodes b'.nodes
  pub names : Copied c.names b.names b'.names
  pub lines : Copied (line_width * c.lines) b.lines b'.lines
  pub pool : Copied c.pool b.pool b'.pool
  pub journal : Copied (edit_width * c.edits) b.journal b'.journal

-- with the same counts they hold the same book, of any kind
abbrev pub Moved : Type 0
Moved = (c : Counts) (b b' : Buffers) (w : Book) → view c b ≡ Some w → MovedTo c b b' → view c b' ≡ Some w

-- lent counts with other buffers
abbrev pub in_rooms : Lent → Buffers → Lent
in_rooms x b' = record { counts = x.counts; buffers = b' }

-- so demand 3 goes on behind a move: from the desk that the calls ks led to, by the calls ls on what was moved, with the new rooms
abbrev pub MovedOn : Type 0
MovedOn =
    (x : Lent) (w : Book) (ks : List Call) (b' : Buffers) (ls : List Call) → view x.counts x.buffers ≡ Some w → eqb w.kind rust ≡ false
    → MovedTo (run x ks).counts (run x ks).buffers b'
    → Holds b' w (run (in_rooms (run x ks) b') ls) (desk_from w (desk_from w (desk_of_book w) x ks) (in_rooms (run x ks) b') ls)
