-- `first_listed` meets its contract. The loop's invariant: no line before i is listed. Assumes nothing.
use Rattle.lookups.specs.Lookups.{listed_as}
use Rattle.lookups.proofs.Firsts.{Firsts}
use Rattle.lookups.proofs.listing.first_listed.Given as goal

abbrev pub invariant-loop-i : goal.invariant-loop-i
invariant-loop-i l = Firsts (listed_as l.name) l.fn.c.lines l.lines l.pool l.i
