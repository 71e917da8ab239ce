-- `known_version` meets its contract. The loop's invariant: the nodes from i on have other names. Assumes nothing.
use Rattle.lookups.proofs.LastNamed.{Backward}
use Rattle.lookups.proofs.wanted.known_version.Given as goal

abbrev pub invariant-loop-i : goal.invariant-loop-i
invariant-loop-i l = Backward l.fn.c.nodes l.nodes l.names l.wanted l.i
