-- `match_name` meets its contract: each need is a turn of proofs/Turns.antt. Assumes nothing.
use Rattle.matching.proofs.Turns.{Held, come, steps_left}
use Rattle.matching.proofs.match_name.Given as goal

abbrev pub invariant-loop-i : goal.invariant-loop-i
invariant-loop-i l = Held l.edition l.p l.n l.at l.i l.star l.tests

abbrev pub decreases-loop-i : goal.decreases-loop-i
decreases-loop-i l = steps_left l.p l.n l.at (come l.star)
