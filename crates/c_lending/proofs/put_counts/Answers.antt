-- `put_counts` meets its contract. Assumes nothing.
use native.Mathlib.Omega.{arith}
use lib.ListN.{length-set}
use Rattle.c_lending.proofs.Lending.{other_put, six_put}
use Rattle.c_lending.proofs.put_counts.Goals as goal

pub returns-then-counts-ne-COUNTS : goal.returns-then-counts-ne-COUNTS
returns-then-counts-ne-COUNTS c = search other_put

pub bounds-counts-4 : goal.bounds-counts-4
bounds-counts-4 c = simp length-set (omega arith)

pub bounds-counts-5 : goal.bounds-counts-5
bounds-counts-5 c = simp length-set (omega arith)

pub returns : goal.returns
returns c = search six_put
