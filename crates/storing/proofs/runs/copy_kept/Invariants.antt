-- `copy_kept` meets its contract. The loop's invariant: the buffer's front holds what is kept of the bytes passed. Assumes nothing.
use Rattle.storing.proofs.Squeezing.{Copied}
use Rattle.storing.proofs.runs.copy_kept.Given as goal

abbrev pub invariant-loop-i : goal.invariant-loop-i
invariant-loop-i l = Copied l.edition l.token l.initial.out l.out l.w l.i l.n
