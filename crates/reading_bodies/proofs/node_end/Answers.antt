-- `node_end` meets its contract. Assumes nothing.
use Rattle.reading_bodies.specs.Bodies.{node_end}
use Rattle.reading_bodies.proofs.Deciding.{parent-section, ways}
use Rattle.reading_bodies.proofs.node_end.Goals as goal

pub returns-in_err-q : goal.returns-in_err-q
unfolding node_end
returns-in_err-q c = search ways

pub returns : goal.returns
unfolding node_end
returns c = search (ways, parent-section)
