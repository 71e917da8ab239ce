-- `put_refused_line` meets its contract. Assumes nothing.
use Rattle.lists.specs.Texts.{codes}
use Rattle.printing.specs.Printing.{refused_line}
use Rattle.printing.proofs.put_refused_line.Goals as goal

pub returns : goal.returns
unfolding refused_line codes
returns c = c.put_numbered.ensures
