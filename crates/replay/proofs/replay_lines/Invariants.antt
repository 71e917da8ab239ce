-- `replay_lines` is safe and ends, and counts no more differences than cases: each turn passes a line. Assumes nothing.
use Rattle.std.specs.Prelude.{◌-◌, length}
use Rattle.replay.specs.Walks.{Walks}
use Rattle.replay.proofs.replay_lines.Given as goal

abbrev pub invariant-loop-walk : goal.invariant-loop-walk
invariant-loop-walk g l = Walks (length l.text) l.walk

abbrev pub decreases-loop-walk : goal.decreases-loop-walk
decreases-loop-walk g l = length l.text - l.walk.at
