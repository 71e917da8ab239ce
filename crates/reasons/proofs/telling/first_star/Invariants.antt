-- `first_star` meets its contract. The loop's invariant: the search goes on at line i. Assumes nothing.
use Rattle.book.specs.Sanity.{bare_star}
use Rattle.lookups.proofs.Firsts.{Firsts}
use Rattle.reasons.proofs.telling.first_star.Given as goal

abbrev pub invariant-loop-i : goal.invariant-loop-i
invariant-loop-i l = Firsts bare_star l.fn.c.lines l.lines l.pool l.i
