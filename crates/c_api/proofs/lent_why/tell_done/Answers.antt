-- `tell_done` meets its contract. Assumes nothing.
use Rattle.numbers.specs.Saying.{refusal_of}
use Rattle.c_lending.proofs.Lending.{tells_with}
use Rattle.reasons.specs.Why.{why_numbers}
use Rattle.std.proofs.Common.{ap, Ok}
use Rattle.c_api.proofs.lent_why.tell_done.Goals as goal

pub returns-in-NoLine : goal.returns-in-NoLine
returns-in-NoLine c = tells_with refusal_of why_numbers _ _ _ _ _ (ap Ok c.in-NoLine.is) c.answer_seven.ensures

pub returns-in-Wanted : goal.returns-in-Wanted
returns-in-Wanted c = tells_with refusal_of why_numbers _ _ _ _ _ (ap Ok c.in-Wanted.is) c.answer_seven-in-Wanted.ensures

pub returns-in-Line : goal.returns-in-Line
returns-in-Line c = tells_with refusal_of why_numbers _ _ _ _ _ (ap Ok c.in-Line.is) c.answer_seven-in-Line.ensures
