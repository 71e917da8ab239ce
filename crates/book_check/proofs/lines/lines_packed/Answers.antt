-- `lines_packed` meets its contract. Assumes nothing.
use native.Mathlib.Omega.{arith}
use Rattle.book_check.proofs.LineRows.{pool-short, lines-short, pool_left, lines_left}
use mathlib.Core.Path.{ap}
use mathlib.Core.Bool.{not}
use Rattle.book_check.proofs.lines.lines_packed.Goals as goal

pub returns-then-pool-p : goal.returns-then-pool-p
returns-then-pool-p c = search pool-short

pub returns-then-lines-n : goal.returns-then-lines-n
returns-then-lines-n c = search lines-short

pub returns-then-not-zero_bytes : goal.returns-then-not-zero_bytes
returns-then-not-zero_bytes c = search pool_left

pub returns : goal.returns
returns c =
    lines_left _ _ _ _ _ _ c.zero_bytes.ensures _ (omega (arith, c.if-pool-p.false)) (ap not c.if-not-zero_bytes.false) c.line_rows.ensures
