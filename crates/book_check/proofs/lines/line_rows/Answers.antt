-- `line_rows` meets its contract. The loop's invariant: row i starts at `at` and its bytes at o, and the rows from i on decide. Assumes nothing.
use Prim.Native.Nat.{◌+◌}
use native.Mathlib.Omega.{arith}
use Rattle.book_check.proofs.LineRows.{lines_start, start_wrong, size_wrong, line_wrong, line-right, end_wrong, lines_end}
use mathlib.Core.Path.{ap}
use mathlib.Core.Bool.{not}
use Rattle.book_check.proofs.lines.line_rows.Goals as goal

pub loop-i-init : goal.loop-i-init
loop-i-init c = search lines_start

pub overflow_cast-lines : goal.overflow_cast-lines
overflow_cast-lines c = omega (arith, c.shared_slice_known-in-loop-i-1.given (c.loop-i.at + 2))

pub returns-then-lines-at : goal.returns-then-lines-at
returns-then-lines-at c = start_wrong c.loop-i.invariant (omega arith) (omega arith) (λ e. omega (arith, c.if-lines-at.true))

pub overflow_cast-size : goal.overflow_cast-size
overflow_cast-size c = omega (arith, c.shared_slice_known-in-loop-i-2-1.given (c.loop-i.at + 3))

pub returns-then-p-o : goal.returns-then-p-o
returns-then-p-o c = search size_wrong

pub returns-then-not-line_good : goal.returns-then-not-line_good
returns-then-not-line_good c = search line_wrong

pub loop-i-preserved : goal.loop-i-preserved
loop-i-preserved c =
    line-right c.loop-i.invariant c.requires.0 c.loop-i-test.true c.line_good.ensures
    (omega (arith, c.if-lines-at.false)) (omega (arith, c.if-p-o.false)) (ap not c.if-not-line_good.false)

pub returns-then-o-p : goal.returns-then-o-p
returns-then-o-p c = end_wrong c.loop-i.invariant (omega arith) (λ e. omega (arith, c.if-o-p.true))

pub returns : goal.returns
returns c = lines_end c.loop-i.invariant c.loop-i-test.false (omega (arith, c.if-o-p.false)) c.zero_numbers.ensures
