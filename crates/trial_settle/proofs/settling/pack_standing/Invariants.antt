-- `pack_standing` meets its contract. The loop's invariant: the first i lines are read, and those of them that stand are packed. Assumes nothing.
use Rattle.trial_settle.proofs.Sifting.{Sifting}
use Rattle.trial_settle.proofs.settling.pack_standing.Given as goal

abbrev pub invariant-loop-i : goal.invariant-loop-i
invariant-loop-i l = Sifting l.n l.initial.lines l.initial.pool l.lines l.pool l.i l.read l.j l.written
