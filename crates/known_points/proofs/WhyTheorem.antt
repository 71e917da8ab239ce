-- The known points of document 02, request 03, hold of the definitions: each side computes to the other. Assumes nothing.
use Rattle.reasons.specs.Why.{rust_deciding, why_asked, why_of}
use Rattle.known_points.specs.WhyPoints.{WhyPoints}
use Rattle.known_points.proofs.Computing.{computing}

pub why-points : WhyPoints
unfolding computing rust_deciding why_asked why_of
why-points = search
