-- `name_to` meets its contract. Assumes nothing.
use borrow.Author.Tests.{lt-ltb}
use Rattle.reading_bodies.specs.Bodies.{name_to}
use Rattle.reading_bodies.proofs.Deciding.{taken, goes, ways}
use Rattle.reading_bodies.proofs.name_to.Goals as goal

pub returns-then-q-p : goal.returns-then-q-p
unfolding name_to
returns-then-q-p c = search ways

pub returns : goal.returns
unfolding name_to
returns c = search (taken, lt-ltb, goes)
