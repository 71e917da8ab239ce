-- `list_at` meets its contract. Assumes nothing.
use Rattle.reading_bodies.specs.Bodies.{list_at}
use Rattle.reading_matchers.proofs.Stepping.{word_goes, word_missing, word_fits}
use Rattle.reading_bodies.proofs.Deciding.{ways}
use Rattle.reading_bodies.proofs.list_at.Goals as goal

pub overflow_add-p : goal.overflow_add-p
unfolding list_at
overflow_add-p c = search (ways, word_fits)

pub returns-then-try_take : goal.returns-then-try_take
unfolding list_at
returns-then-try_take c = search word_goes

pub returns : goal.returns
unfolding list_at
returns c = search word_missing
