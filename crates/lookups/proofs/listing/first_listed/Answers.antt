-- `first_listed` meets its contract. The loop's invariant: no line before i is listed. Assumes nothing.
use native.Mathlib.Omega.{arith}
use Rattle.lookups.proofs.Firsts.{firsts_starts, firsts_lies, listed-local, listed_here, listed_other, firsts_none}
use Rattle.lookups.proofs.listing.first_listed.Goals as goal

pub loop-i-init : goal.loop-i-init
loop-i-init c = search firsts_starts

pub loop-i-preserved-then-section_of-ne-GLOBAL : goal.loop-i-preserved-then-section_of-ne-GLOBAL
loop-i-preserved-then-section_of-ne-GLOBAL c =
    listed-local _ c.loop-i.invariant c.loop-i-test.true c.section_of.ensures (λ e. omega (arith, c.if-section_of-ne-GLOBAL.true))

pub line_bytes-requires : goal.line_bytes-requires
line_bytes-requires c = search firsts_lies

pub returns-then-same_bytes : goal.returns-then-same_bytes
returns-then-same_bytes c =
    listed_here _ c.loop-i.invariant c.loop-i-test.true c.section_of.ensures c.line_bytes.ensures
    c.same_bytes.ensures (omega (arith, c.if-section_of-ne-GLOBAL.false)) c.if-same_bytes.true

pub loop-i-preserved : goal.loop-i-preserved
loop-i-preserved c = search listed_other

pub returns : goal.returns
returns c = search firsts_none
