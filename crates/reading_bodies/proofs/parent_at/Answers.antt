-- `parent_at` meets its contract. Assumes nothing.
use Rattle.reading_bodies.proofs.Deciding.{no_parent, parent-goes, parent-long, parent-fits}
use Rattle.reading_bodies.proofs.parent_at.Goals as goal

pub returns-in_default : goal.returns-in_default
returns-in_default c = search no_parent

pub overflow_sub-event : goal.overflow_sub-event
overflow_sub-event c = search parent-long

pub overflow_add-q : goal.overflow_add-q
overflow_add-q c = search parent-fits

pub returns : goal.returns
returns c = search parent-goes
