-- `node_at` meets its contract. Assumes nothing.
use borrow.Author.Tests.{ne_eqb}
use Rattle.reading_bodies.specs.Bodies.{node_at}
use Rattle.reading_bodies.proofs.Deciding.{left, name-ends, ways}
use Rattle.reading_bodies.proofs.node_at.Goals as goal

pub returns-then-p-s : goal.returns-then-p-s
unfolding node_at
returns-then-p-s c = search ways

pub returns : goal.returns
unfolding node_at
returns c = search (left, ne_eqb, name-ends)
