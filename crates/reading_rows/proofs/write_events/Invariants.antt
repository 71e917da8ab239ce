-- `write_events` meets its contract. The loop's invariant: the buffer's front holds the rows of the events passed. Assumes nothing.
use Prim.Native.Nat.{◌+◌, ◌-◌}
use lib.ListN.{length}
use Rattle.reading_rows.proofs.Tabling.{Tabled}
use Rattle.reading_rows.proofs.write_events.Given as goal

abbrev pub invariant-loop-e : goal.invariant-loop-e
invariant-loop-e l = Tabled l.fn.place l.text l.initial.rows l.rows l.n l.c

abbrev pub decreases-loop-e : goal.decreases-loop-e
decreases-loop-e l = length l.text + 2 - l.c.at
