-- `node_rows` meets its contract. The loop's invariant: what is left from row i on decides. Assumes nothing.
use Rattle.book_check.proofs.NodeChecks.{rows_start, start_bad, name-past, rows_more, names-short, rows_end}
use native.Mathlib.Omega.{arith}
use Rattle.book_check.proofs.nodes.node_rows.Goals as goal

pub loop-i-init : goal.loop-i-init
loop-i-init c = search rows_start

pub returns-then-nodes-at : goal.returns-then-nodes-at
returns-then-nodes-at c = start_bad _ _ _ _ _ _ _ c.loop-i.invariant (omega arith) (omega arith) (λ e. omega (arith, c.if-nodes-at.true))

pub returns-then-p-o : goal.returns-then-p-o
returns-then-p-o c = search name-past

pub loop-i-preserved : goal.loop-i-preserved
loop-i-preserved c =
    rows_more _ _ _ _ _ _ _ c.loop-i.invariant (omega arith) c.loop-i-test.true
    (omega (arith, c.if-nodes-at.false)) (omega (arith, c.if-p-o.false))

pub returns-then-o-p : goal.returns-then-o-p
returns-then-o-p c = names-short _ _ _ _ _ _ _ c.loop-i.invariant (omega arith) (omega arith) (λ e. omega (arith, c.if-o-p.true))

pub returns : goal.returns
returns c = rows_end _ _ _ _ _ _ _ c.loop-i.invariant (omega arith) _ c.loop-i-test.false (omega (arith, c.if-o-p.false)) c.zero_numbers.ensures
