-- `tell_version` meets its contract. Assumes nothing.
use Rattle.numbers.specs.Saying.{refusal_of}
use Rattle.c_lending.proofs.Lending.{tells}
use Rattle.lookups.specs.Lookups.{version_value}
use Rattle.c_api.proofs.lent_questions.tell_version.Goals as goal

pub returns-in-Err : goal.returns-in-Err
returns-in-Err c = tells refusal_of version_value _ _ _ _ _ c.in-Err.is (rw c.number.ensures at c.answer-in-Err.ensures)

pub returns-in-Ok : goal.returns-in-Ok
returns-in-Ok c = tells refusal_of version_value _ _ _ _ _ c.in-Ok.is (rw c.version_number.ensures at c.answer.ensures)
