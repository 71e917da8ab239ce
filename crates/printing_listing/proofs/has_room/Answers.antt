-- `has_room` meets its contract. Assumes nothing.
use Rattle.printing_listing.proofs.Inputs.{room_lacks, room_left}
use Rattle.printing_listing.proofs.has_room.Goals as goal

pub returns-then-out-lt-TAIL_ROOM : goal.returns-then-out-lt-TAIL_ROOM
returns-then-out-lt-TAIL_ROOM c = room_lacks c.args.text c.args.out c.if-out-lt-TAIL_ROOM.true

pub returns : goal.returns
returns c = room_left c.args.text c.args.out c.if-out-lt-TAIL_ROOM.false
