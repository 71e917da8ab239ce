-- `find_mark` meets its contract. Assumes nothing.
use mathlib.Core.Path.{refl}
use Rattle.input.specs.Splitting.{mark}
use Rattle.input.proofs.Marks.{mark_here, mark_none, mark-other, mark-stale}
use Rattle.input.proofs.splitting.find_mark.Goals as goal
use Rattle.input.proofs.splitting.find_mark.Goals.{else-fresh-via-then-fresh+else-is_mark, else-fresh-via-else-fresh}

pub loop-i-init : goal.loop-i-init
unfolding mark
loop-i-init c = refl

pub returns-then-is_mark : goal.returns-then-is_mark
returns-then-is_mark c = mark_here _ _ _ c.loop-i.invariant c.loop-i-test.true c.if-fresh.true c.if-is_mark.ensures

pub loop-i-preserved : goal.loop-i-preserved
loop-i-preserved c = elim c.else-fresh.branch [
  | else-fresh-via-then-fresh+else-is_mark w ↦ mark-other _ _ _ c.loop-i.invariant c.loop-i-test.true w.if-fresh.true w.if-is_mark.ensures
  | else-fresh-via-else-fresh w ↦ mark-stale _ _ _ c.loop-i.invariant c.loop-i-test.true w.if-fresh.false
]

pub returns : goal.returns
returns c = search mark_none
