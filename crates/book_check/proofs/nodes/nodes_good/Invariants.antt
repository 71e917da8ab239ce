-- `nodes_good` meets its contract. The loop's invariant: what is left from node i on decides. Assumes nothing.
use Rattle.book_check.proofs.NodeChecks.{Judging}
use Rattle.book_check.proofs.nodes.nodes_good.Given as goal

abbrev pub invariant-loop-i : goal.invariant-loop-i
invariant-loop-i l = Judging l.n l.p l.nodes l.names l.i
