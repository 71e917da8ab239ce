-- `closing_of` meets its contract, by the laws of Closings. Assumes nothing.
use native.Mathlib.Omega.{arith}
use Rattle.pattern_check.proofs.Closings.{mark-fits, end_fits, stays_open, closes}
use Rattle.pattern_check.proofs.closing_of.Goals as goal

pub overflow_add-from : goal.overflow_add-from
overflow_add-from c = search (mark-fits, arith)

pub overflow_add-end : goal.overflow_add-end
overflow_add-end c = search (end_fits, arith)

pub returns-then-p-end : goal.returns-then-p-end
returns-then-p-end c = stays_open _ _ _ _ c.mark_at.ensures _ _ c.between_length.ensures (omega (arith, c.if-p-end.true))

pub returns-else-p-end : goal.returns-else-p-end
returns-else-p-end c = closes _ _ _ _ c.mark_at.ensures _ _ c.between_length.ensures (omega (arith, c.if-p-end.false))
