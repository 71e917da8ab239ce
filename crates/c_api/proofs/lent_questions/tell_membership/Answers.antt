-- `tell_membership` meets its contract. Assumes nothing.
use Rattle.numbers.specs.Saying.{refusal_of}
use Rattle.c_lending.proofs.Lending.{tells}
use Rattle.std.proofs.Common.{◌∙◌}
use Rattle.c_api.proofs.Asked.{as_number}
use Rattle.export_list.specs.Membership.{membership_value}
use Rattle.c_api.proofs.lent_questions.tell_membership.Goals as goal

pub returns-in-Err : goal.returns-in-Err
returns-in-Err c = tells refusal_of membership_value _ _ _ _ _ c.in-Err.is (rw c.number.ensures at c.answer-in-Err.ensures)

pub returns-in-Ok : goal.returns-in-Ok
returns-in-Ok c = tells refusal_of membership_value _ _ _ _ _ c.in-Ok.is (rw (c.from.ensures ∙ as_number c.in-Ok.within) at c.answer.ensures)
