-- `answer` meets its contract. Assumes nothing.
use Rattle.c_lending.proofs.Lending.{answer-refused, answer_roomless, answer-given}
use Rattle.c_lending.proofs.answer.Goals as goal

pub returns-then-no-ne0 : goal.returns-then-no-ne0
returns-then-no-ne0 c = answer-refused _ _ _ c.if-no-ne0.true

pub returns-then-out-eq0 : goal.returns-then-out-eq0
returns-then-out-eq0 c = answer_roomless _ _ _ c.if-no-ne0.false c.if-out-eq0.true

pub returns : goal.returns
returns c = answer-given _ _ _ c.if-no-ne0.false c.if-out-eq0.false
