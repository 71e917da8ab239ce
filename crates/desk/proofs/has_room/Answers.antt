-- `has_room` meets its contract. Assumes nothing.
use Rattle.desk.proofs.RanLines.{room_lacks, room_left}
use Rattle.desk.proofs.has_room.Goals as goal

pub returns-then-out-room : goal.returns-then-out-room
returns-then-out-room c =
    let a = c.args in
    room_lacks a.line _ _ a.out c.shown_room-room.ensures c.if-out-room.true

pub returns : goal.returns
returns c =
    let a = c.args in
    room_left a.line _ _ a.out c.shown_room-room.ensures c.if-out-room.false
