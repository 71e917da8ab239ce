-- `copy` meets its contract. Assumes nothing.
use Rattle.lists.specs.Front.{front}
use Rattle.storing.proofs.copy.Goals as goal

pub returns : goal.returns
unfolding front
returns c = rw c.copy_from_slice.ensures.after
