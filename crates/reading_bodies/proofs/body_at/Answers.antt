-- `body_at` meets its contract. Assumes nothing.
use Rattle.reading_bodies.specs.Bodies.{body_at}
use Rattle.reading_bodies.proofs.Deciding.{ways}
use Rattle.reading_bodies.proofs.body_at.Goals as goal

pub returns-then-byte_at-eq125 : goal.returns-then-byte_at-eq125
unfolding body_at
returns-then-byte_at-eq125 c = search ways

pub returns : goal.returns
unfolding body_at
returns c = search ways
