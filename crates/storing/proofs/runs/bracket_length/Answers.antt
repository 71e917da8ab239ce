-- `bracket_length` meets its contract. Assumes nothing.
use native.Mathlib.Omega.{arith}
use Rattle.storing.proofs.Squeezing.{from-fits, part-fits, past_fits, bracket_is}
use Rattle.storing.proofs.runs.bracket_length.Goals as goal

pub overflow_add-at-2 : goal.overflow_add-at-2
overflow_add-at-2 c = search (from-fits, arith)

pub overflow_add-result : goal.overflow_add-result
overflow_add-result c = search (part-fits, arith)

pub overflow_add-result-2 : goal.overflow_add-result-2
overflow_add-result-2 c = search (past_fits, arith)

pub returns : goal.returns
returns c = search bracket_is
