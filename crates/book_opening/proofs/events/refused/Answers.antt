-- `refused` meets its contract. Assumes nothing.
use Rattle.book_opening.specs.Opening.{told}
use Rattle.book_opening.proofs.events.refused.Goals as goal

pub returns : goal.returns
unfolding told
returns c = rw c.no_counts.ensures
