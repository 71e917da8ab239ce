-- The release desk's lines, one behind the other, in the rooms that trial_desk has. Assumes nothing.
use Rattle.std.specs.Prelude.{ℕ, ◌≤◌, ◌*◌, ◌≡◌, List, [], ◌∷◌, true, length}
use Rattle.input.specs.Splitting.{input_limit, lines_in}
use Rattle.book.specs.declared.Counts.{Counts}
use Rattle.book.specs.Books.{Book}
use Rattle.book.specs.Layout.{Buffers, edit_width, line_width, node_width}
use Rattle.book_opening.specs.declared.How.{How}
use Rattle.book_opening.specs.Opening.{Opening, opens, declined, left, opening}
use Rattle.book_opened.specs.Opened.{opens_at}
use Rattle.histories.specs.Histories.{Lent}
use Rattle.histories.specs.Demand.{lent_opening}
use Rattle.desk.specs.Desk.{has_room, line_step}

-- ---- buffers that are lent with counts
abbrev pub with_counts : Counts → Buffers → Lent
with_counts c b = record { counts = c; buffers = b }

-- ---- what a line leaves, and lines, each on what the one before it left, behind the opening of the text s
abbrev pub line_lent : List ℕ → Lent → List ℕ → Lent
line_lent s x l = with_counts (line_step s x.counts x.buffers l).counts (line_step s x.counts x.buffers l).left

unfoldable pub lines_lent : List ℕ → Lent → List (List ℕ) → Lent
lines_lent s x [] = x
lines_lent s x (l ∷ ls) = lines_lent s (line_lent s x l) ls

-- ---- trial_desk's rooms: 1,024 nodes, 4,096 lines, 65,536 bytes each of names and pool, 1,024 edits
pub record DeskRooms (b : Buffers) : Type 0 where
  pub nodes : length b.nodes ≡ node_width * 1024
  pub names : length b.names ≡ 65536
  pub lines : length b.lines ≡ line_width * 4096
  pub pool : length b.pool ≡ 65536
  pub journal : length b.journal ≡ edit_width * 1024

-- the room for what a line prints
abbrev pub printing_room : ℕ
printing_room = 1048576

-- x is what some lines leave behind the opening of the text s in these rooms
pub record Reached (s : List ℕ) (x : Lent) : Type 0 where
  pub how : How
  pub lent : Buffers
  pub book : Book
  pub lines : List (List ℕ)
  pub known : opens_at how ≡ true
  pub roomy : DeskRooms lent
  pub opened : opening how lent s ≡ opens book
  pub behind : x ≡ lines_lent s (lent_opening lent (opening how lent s)) lines

-- ---- the theorem: wherever the desk's lines lead, no line of its input lacks room
abbrev pub NoLineLacksRoom : Type 0
NoLineLacksRoom =
    (s : List ℕ) (x : Lent) (l out : List ℕ) → Reached s x → length l ≤ input_limit → printing_room ≤ length out → has_room x.counts l out ≡ true

-- ---- what the desk's input leaves in its buffers: the text's opening, and the lines of commands where it is not refused
abbrev pub behind_opening : List ℕ → Buffers → Opening → List (List ℕ) → Buffers
behind_opening s b (opens w) ls = (lines_lent s (lent_opening b (opens w)) ls).buffers
behind_opening s b (declined n p) ls = left b (declined n p)

unfoldable pub desk_left : How → Buffers → List ℕ → List ℕ → Buffers
desk_left how b s commands = behind_opening s b (opening how b s) (lines_in [] commands)
