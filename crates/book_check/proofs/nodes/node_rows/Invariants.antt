-- `node_rows` meets its contract. The loop's invariant: what is left from row i on decides. Assumes nothing.
use Rattle.book_check.proofs.NodeChecks.{Rowing}
use Rattle.book_check.proofs.nodes.node_rows.Given as goal

abbrev pub invariant-loop-i : goal.invariant-loop-i
invariant-loop-i l = Rowing l.n l.p l.nodes l.names l.i l.at l.o
