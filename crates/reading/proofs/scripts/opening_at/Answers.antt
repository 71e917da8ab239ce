-- `opening_at` meets its contract. Assumes nothing.
use Rattle.reading_bodies.proofs.Deciding.{ways}
use Rattle.reading.specs.Scripts.{opening_at}
use Rattle.reading.proofs.scripts.opening_at.Goals as goal

pub returns-in_err-p : goal.returns-in_err-p
unfolding opening_at
returns-in_err-p c = search ways

pub returns-then-byte_at-eq123 : goal.returns-then-byte_at-eq123
unfolding opening_at
returns-then-byte_at-eq123 c = search ways

pub returns : goal.returns
unfolding opening_at
returns c = search ways
