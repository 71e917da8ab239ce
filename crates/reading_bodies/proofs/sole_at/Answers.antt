-- `sole_at` meets its contract. Assumes nothing.
use Rattle.reading_bodies.specs.Bodies.{sole_at}
use Rattle.reading_bodies.proofs.Deciding.{taken, byte_is, ways}
use Rattle.reading_bodies.proofs.sole_at.Goals as goal

pub returns-then-byte_at-eq125 : goal.returns-then-byte_at-eq125
unfolding sole_at
returns-then-byte_at-eq125 c = search (taken, byte_is)

pub returns : goal.returns
unfolding sole_at
returns c = search ways
