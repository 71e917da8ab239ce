-- The known points of document 02, request 02, hold of the definitions: each side computes to the other, and of scripts of any length by how many blanks they
-- have. Assumes nothing.
use native.Mathlib.Omega.{arith}
use Rattle.known_points.specs.OffsetPoints.{LateToken, OffsetPoints}
use Rattle.known_points.proofs.Computing.{computing}
use Rattle.known_points.proofs.LateToken.{late-long, late-opened, late-over}

late : LateToken
late = record {
  long = late-long;
  opened = late-opened;
  over = late-over;
  longest = late-long 1048571;
  last = late-opened 1048571 (omega arith);
  one_more = late-over 1048572 (omega arith);
}

pub offset-points : OffsetPoints
unfolding computing
offset-points = search late
