-- `find_match` meets its contract. The loop's invariant: `line` leads among the lines that are passed, and `best` is its rank. Assumes nothing.
use Rattle.ranking.proofs.Leading.{Seeking}
use Rattle.ranking.proofs.finding.find_match.Given as goal

abbrev pub invariant-loop-i : goal.invariant-loop-i
invariant-loop-i l = Seeking l.frame l.n l.p l.lines l.pool l.raw l.demangled l.best l.line l.i
