-- `sole_end` meets its contract. Assumes nothing.
use Rattle.reading_bodies.specs.Bodies.{sole_end}
use Rattle.reading_bodies.proofs.Deciding.{ways}
use Rattle.reading_bodies.proofs.sole_end.Goals as goal

pub returns-in_err-q : goal.returns-in_err-q
unfolding sole_end
returns-in_err-q c = search ways

pub returns-then-byte_at-eq59 : goal.returns-then-byte_at-eq59
unfolding sole_end
returns-then-byte_at-eq59 c = search ways

pub returns : goal.returns
unfolding sole_end
returns c = search ways
