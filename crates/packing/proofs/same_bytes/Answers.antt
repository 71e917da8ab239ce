-- `same_bytes` meets its contract. The loop's invariant: both have one length, and the first i and the last i are equal. Assumes nothing.
use Rattle.std.proofs.Common.{◌-◌, length}
use native.Mathlib.Omega.{arith}
use Rattle.lists.proofs.SameLaws.{same_lengths}
use Rattle.packing.proofs.Alike.{alike-starts, alike-differs, alike_more, alike-ends}
use Rattle.packing.proofs.same_bytes.Goals as goal

pub returns-then-b-n : goal.returns-then-b-n
returns-then-b-n c = same_lengths _ _ (λ e. omega (arith, c.if-b-n.true))

pub loop-i-init : goal.loop-i-init
loop-i-init c = alike-starts (omega (arith, c.if-b-n.false))

pub returns-then-a-j : goal.returns-then-a-j
returns-then-a-j c = alike-differs _ _ (length c.args.a.now - 1 - c.loop-i.i) (λ e. omega (arith, c.if-a-j.true))

pub returns-then-a-i : goal.returns-then-a-i
returns-then-a-i c = alike-differs _ _ c.loop-i.i (λ e. omega (arith, c.if-a-i.true))

pub loop-i-preserved : goal.loop-i-preserved
loop-i-preserved c = alike_more c.loop-i.invariant (omega arith) (omega (arith, c.if-a-j.false)) (omega (arith, c.if-a-i.false))

pub returns : goal.returns
returns c = alike-ends c.loop-i.invariant (omega arith)
