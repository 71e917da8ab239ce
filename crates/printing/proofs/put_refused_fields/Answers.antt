-- `put_refused_fields` meets its contract. Assumes nothing.
use Rattle.lists.specs.Texts.{codes}
use Rattle.printing.specs.Printing.{refused_fields}
use Rattle.printing.proofs.put_refused_fields.Goals as goal

pub returns : goal.returns
unfolding refused_fields codes
returns c = c.put_spaced.ensures
