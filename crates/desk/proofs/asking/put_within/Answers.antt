-- `put_within` meets its contract. Assumes nothing.
use Rattle.lists.specs.Texts.{codes}
use Rattle.desk.proofs.asking.put_within.Goals as goal

pub returns-then-within : goal.returns-then-within
unfolding codes
returns-then-within c = rw c.if-within.true c.put_text.ensures

pub returns : goal.returns
unfolding codes
returns c = rw c.if-within.false c.put_text-2.ensures
