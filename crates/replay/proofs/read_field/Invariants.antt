-- No more bytes stand there than there is room. Assumes nothing.
use Prim.Native.Nat.{◌≤◌}
use Rattle.replay.proofs.read_field.Given as goal

abbrev pub invariant-loop-i : goal.invariant-loop-i
invariant-loop-i l = l.n ≤ 256
