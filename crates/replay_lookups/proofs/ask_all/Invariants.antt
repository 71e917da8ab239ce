-- `ask_all` is safe and ends, and goes on through the cases: each turn passes a line. Assumes nothing.
use Rattle.std.specs.Prelude.{◌-◌, length}
use Rattle.replay.specs.Walks.{Onward}
use Rattle.replay_lookups.proofs.ask_all.Given as goal

abbrev pub invariant-loop-walk : goal.invariant-loop-walk
invariant-loop-walk g l = Onward (length l.text) l.initial.walk.at l.walk

abbrev pub decreases-loop-walk : goal.decreases-loop-walk
decreases-loop-walk g l = length l.text - l.walk.at
