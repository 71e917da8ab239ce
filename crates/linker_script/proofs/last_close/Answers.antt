-- `last_close` meets its contract. The loop's invariant: no `};` ends at i or behind it. Assumes nothing.
use native.Mathlib.Omega.{arith}
use Rattle.linker_script.proofs.Searches.{behind_all, behind_none, behind_other, behind_open, behind_ends}
use Rattle.linker_script.proofs.last_close.Goals.{else-s-i-eq59-via-then-s-i-eq59+else-s-i-eq125, else-s-i-eq59-via-else-s-i-eq59}
use Rattle.linker_script.proofs.last_close.Goals as goal

pub loop-i-init : goal.loop-i-init
loop-i-init c = search behind_all

pub returns-then-s-i-eq125 : goal.returns-then-s-i-eq125
returns-then-s-i-eq125 c = behind_ends _ c.loop-i.invariant (omega (arith, c.loop-i-test.true)) c.if-s-i-eq59.true c.if-s-i-eq125.true

pub loop-i-preserved : goal.loop-i-preserved
loop-i-preserved c =
    elim c.else-s-i-eq59.branch [
      | else-s-i-eq59-via-then-s-i-eq59+else-s-i-eq125 w ↦ behind_open _ c.loop-i.invariant (omega (arith, c.loop-i-test.true)) w.if-s-i-eq125.false
      | else-s-i-eq59-via-else-s-i-eq59 w ↦ behind_other _ c.loop-i.invariant (omega (arith, c.loop-i-test.true)) w.if-s-i-eq59.false
    ]

pub returns : goal.returns
returns c = behind_none _ c.loop-i.invariant c.loop-i-test.false
