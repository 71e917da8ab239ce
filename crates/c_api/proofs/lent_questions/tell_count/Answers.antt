-- `tell_count` meets its contract. Assumes nothing.
use Rattle.c_lending.proofs.Lending.{tells}
use Rattle.numbers.specs.Saying.{refusal_of}
use Rattle.counting.specs.Questions.{count_value}
use Rattle.c_api.proofs.lent_questions.tell_count.Goals as goal

pub returns-in-Err : goal.returns-in-Err
returns-in-Err c = tells refusal_of count_value _ _ _ _ _ c.in-Err.is (rw c.number.ensures at c.answer.ensures)

pub returns-in-Ok : goal.returns-in-Ok
returns-in-Ok c = search tells
