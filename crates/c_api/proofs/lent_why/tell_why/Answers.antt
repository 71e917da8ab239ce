-- `tell_why` meets its contract. Assumes nothing.
use Rattle.numbers.specs.Saying.{refusal_of}
use Rattle.c_lending.proofs.Lending.{tells_with}
use Rattle.reasons.specs.Why.{why_numbers}
use Rattle.c_api.proofs.lent_why.tell_why.Goals as goal

pub returns-in-Err : goal.returns-in-Err
returns-in-Err c = tells_with refusal_of why_numbers _ _ _ _ _ c.in-Err.is (rw c.number.ensures at c.answer_seven.ensures)

pub returns-in-Ok : goal.returns-in-Ok
returns-in-Ok c = rw c.in-Ok.is c.tell_done.ensures
