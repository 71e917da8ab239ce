-- The known points hold of the definitions: each side computes to the other. Assumes nothing.
use Rattle.known_points.specs.KnownPoints.{Points}
use Rattle.known_points.proofs.Computing.{computing}

pub known-points : Points
unfolding computing
known-points = search
