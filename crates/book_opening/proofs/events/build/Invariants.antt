-- `build` meets its contract. The loop's invariant, `Going`: the buffers hold what was read so far, and what is left to read decides. Each event moves
-- on in the text. Assumes nothing.
use Prim.Native.Nat.{◌+◌, ◌-◌}
use lib.ListN.{length}
use Rattle.book_opening.proofs.Opens.{Going}
use Rattle.book_opening.proofs.events.build.Given as goal

abbrev pub invariant-loop-e : goal.invariant-loop-e
invariant-loop-e l = Going l.place l.s l.initial.nodes l.initial.names l.initial.lines l.initial.pool l.nodes l.names l.lines l.pool l.c l.g

abbrev pub decreases-loop-e : goal.decreases-loop-e
decreases-loop-e l = length l.s + 2 - l.c.at
