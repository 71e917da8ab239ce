-- `unescape_pattern` meets its contract. Assumes nothing.
use Rattle.storing.proofs.Answers.{full_answer, full_buffer, room_answer, room_buffer}
use Rattle.storing.proofs.unescape_pattern.Goals as goal

pub returns-then-out-size : goal.returns-then-out-size
returns-then-out-size c = search (full_answer, full_buffer)

pub returns : goal.returns
returns c = search (room_answer, room_buffer)
