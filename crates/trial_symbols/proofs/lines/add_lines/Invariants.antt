-- `add_lines` meets its contract. The loop's invariant, `Going`: the buffers hold the book with the lines so far, and what is left to read decides. Each event
-- moves on in the text. Assumes nothing.
use Prim.Native.Nat.{◌+◌, ◌-◌}
use lib.ListN.{length}
use Rattle.trial_symbols.proofs.AddedTexts.{Going}
use Rattle.trial_symbols.proofs.lines.add_lines.Given as goal

abbrev pub invariant-loop-e : goal.invariant-loop-e
invariant-loop-e l = Going l.c l.fn.place l.s l.nodes l.names l.initial.lines l.initial.pool l.initial.journal l.lines l.pool l.journal l.at l.k

abbrev pub decreases-loop-e : goal.decreases-loop-e
decreases-loop-e l = length l.s + 2 - l.at.at
