-- The whole of what verlist prints, as 01 has it, and what is left in the buffers that it is lent. Assumes nothing.
use Rattle.std.specs.Prelude.{ℕ, ◌+◌, ◌*◌, ◌≡◌, List, Bool, cond, leb, length}
use Rattle.numbers.specs.Limits.{over}
use Rattle.numbers.specs.Refusals.{no_room, too_long}
use Rattle.lists.specs.Front.{front}
use Rattle.packing.specs.Padding.{zeros}
use Rattle.book.specs.Layout.{Buffers, edit_width, five, line_width, node_width}
use Rattle.book_opening.specs.Opening.{Opening, as_script, declined, left, opening}
use Rattle.input.specs.Splitting.{input_limit, mark, part_before, symbols_by}
use Rattle.printing_symbols.specs.Lines.{byte_room, tail_room}
use Rattle.printing_listing.specs.declared.script.Listed.{Listed}
use Rattle.printing_listing.specs.Script.{printed, with_refusal}

-- the opening of the script, in buffers with the rooms of b; "longer input prints `refused 1`"
unfoldable pub input_opening : Buffers → List ℕ → Opening
input_opening b s = cond (over input_limit s) (declined too_long 0) (opening as_script b (part_before s (mark s)))

-- what is printed
unfoldable pub listing : Buffers → List ℕ → List ℕ
listing b s = printed (input_opening b s) (symbols_by s (mark s))

-- ---- in a lent buffer of room for every listing of that length; in a smaller one nothing is done, and nothing is asked of the input, its length neither
abbrev pub room_for : ℕ → ℕ → Bool
room_for n room = leb (tail_room + byte_room * n) room

unfoldable pub has_room : List ℕ → List ℕ → Bool
has_room s out = room_for (length s) (length out)

-- without room: 0 would say that it is done
abbrev pub nothing_listed : Listed
nothing_listed = record { length = 0; refusal = no_room; place = 0 }

unfoldable pub listed : Buffers → List ℕ → List ℕ → Listed
listed b s out = cond (has_room s out) (with_refusal (length (listing b s)) (input_opening b s)) nothing_listed

unfoldable pub out_left : Buffers → List ℕ → List ℕ → List ℕ
out_left b s out = cond (has_room s out) (front (listing b s) out) out

-- the book's buffers: as the opening leaves them, which is zeros where it is refused; without room as they were
unfoldable pub book_left : Buffers → List ℕ → List ℕ → Buffers
book_left b s out = cond (has_room s out) (left b (input_opening b s)) b

-- the input s is listed: r is answered, and `out` and the buffers are out' and b' then
abbrev pub Lists : Buffers → List ℕ → List ℕ → Listed → List ℕ → Buffers → Type 0
Lists b s out r out' b' = (r ≡ listed b s out) × (out' ≡ out_left b s out) × (b' ≡ book_left b s out)

-- ---- "Its room: 1,024 nodes, 2,048 lines, 65,536 bytes each of names and pool". The journal has the room of one edit, and no edit is made
unfoldable pub verlist_room : Buffers
verlist_room = five (zeros (node_width * 1024)) (zeros 65536) (zeros (line_width * 2048)) (zeros 65536) (zeros edit_width)
