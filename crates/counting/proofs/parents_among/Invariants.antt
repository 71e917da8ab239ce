-- `parents_among` meets its contract. The loop's invariant: the parents that are counted and those from row i on are all. Assumes nothing.
use Rattle.counting.proofs.Nodes.{Counting}
use Rattle.counting.proofs.parents_among.Given as goal

abbrev pub invariant-loop-i : goal.invariant-loop-i
invariant-loop-i l = Counting l.nodes l.n l.i l.r
