-- `script_at` meets its contract. Assumes nothing.
use Rattle.reading_bodies.specs.Bodies.{script_at}
use Rattle.reading_bodies.proofs.Deciding.{taken, byte_is, goes, ways}
use Rattle.reading_bodies.proofs.script_at.Goals as goal

pub returns-then-byte_at-eq123 : goal.returns-then-byte_at-eq123
unfolding script_at
returns-then-byte_at-eq123 c = search (taken, byte_is, goes)

pub returns : goal.returns
unfolding script_at
returns c = search ways
