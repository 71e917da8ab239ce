-- `none_struck` meets its contract. The loop's invariant: the lines from number i on decide. Assumes nothing.
use Rattle.trial_settle.proofs.Unstruck.{Unstruck}
use Rattle.trial_settle.proofs.settling.none_struck.Given as goal

abbrev pub invariant-loop-i : goal.invariant-loop-i
invariant-loop-i l = Unstruck l.n l.lines l.pool l.i
