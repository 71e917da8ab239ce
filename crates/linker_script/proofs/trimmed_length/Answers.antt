-- `trimmed_length` meets its contract. Assumes nothing.
use native.Mathlib.Omega.{arith}
use Rattle.linker_script.proofs.Trimming.{kept_all, kept_less, kept-ends, kept_none}
use Rattle.linker_script.proofs.trimmed_length.Goals as goal

pub loop-k-init : goal.loop-k-init
loop-k-init c = search kept_all

pub returns-then-not-is_white : goal.returns-then-not-is_white
returns-then-not-is_white c = kept-ends c.loop-k.invariant (omega (arith, c.loop-k-test.true)) _ c.is_white.ensures c.if-not-is_white.true

pub loop-k-preserved : goal.loop-k-preserved
loop-k-preserved c = search kept_less

pub returns : goal.returns
returns c = (omega arith, kept_none c.loop-k.invariant (omega (arith, c.loop-k-test.false)))
