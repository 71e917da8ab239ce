-- `unescaped_length` meets its contract. The loop's invariant: the bytes counted, with those that are left, are all. Assumes nothing.
use Rattle.storing.proofs.Keeping.{counted_start, counted-goes, counted-stays, counted_end}
use Rattle.storing.proofs.unescaped_length.Goals as goal

pub loop-i-init : goal.loop-i-init
loop-i-init c = search counted_start

pub loop-i-preserved-then-pattern-i-eq92 : goal.loop-i-preserved-then-pattern-i-eq92
loop-i-preserved-then-pattern-i-eq92 c = counted-goes c.loop-i.invariant c.loop-i-test.true c.if-pattern-i-eq92.true

pub loop-i-preserved : goal.loop-i-preserved
loop-i-preserved c = search counted-stays

pub returns : goal.returns
returns c = search counted_end
