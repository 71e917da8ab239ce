-- `first_named` meets its contract. The loop's invariant: the search goes on from node i. Assumes nothing.
use Rattle.book.proofs.NodeRows.{Searching}
use Rattle.book.proofs.nodes.first_named.Given as goal

abbrev pub invariant-loop-i : goal.invariant-loop-i
invariant-loop-i l = Searching l.n l.p l.nodes l.names l.name l.i
