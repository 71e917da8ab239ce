-- `store_exact` meets its contract. Assumes nothing.
use Rattle.storing.proofs.Answers.{full_answer, full_buffer, room_answer, room_buffer, copied}
use Rattle.storing.proofs.store_exact.Goals as goal

pub returns-then-out-exact : goal.returns-then-out-exact
returns-then-out-exact c = search (full_answer, full_buffer)

pub returns : goal.returns
returns c = search (room_answer, room_buffer, copied)
