-- `put_refused_answer` meets its contract. Assumes nothing.
use Rattle.lists.specs.Texts.{codes}
use Rattle.printing.specs.Printing.{refused_answer}
use Rattle.printing.proofs.put_refused_answer.Goals as goal

pub returns : goal.returns
unfolding refused_answer codes
returns c = c.put_numbered.ensures
