-- `copy_unescaped` meets its contract. The loop's invariant: the buffer's front holds the bytes passed, without their escapes. Assumes nothing.
use native.Mathlib.Omega.{arith}
use Rattle.lists.proofs.FrontLaws.{written_start, written-room, written_more, written_end}
use Rattle.storing.proofs.Keeping.{unescape_some, unescape-goes, unescape-stays, unescape_stays_last, unescape_end}
use Rattle.storing.proofs.copy_unescaped.Goals as goal
use Rattle.storing.proofs.copy_unescaped.Goals.{then-src-i-eq92+else-j-src, else-src-i-eq92}

pub loop-i-init : goal.loop-i-init
loop-i-init c = (omega arith, search written_start)

pub bounds-out-n : goal.bounds-out-n
bounds-out-n c = search (written-room, unescape_some)

pub loop-i-preserved-then-j-src : goal.loop-i-preserved-then-j-src
loop-i-preserved-then-j-src c =
    (omega arith, written_more c.loop-i.invariant.1 c.requires (unescape-goes _ _ c.loop-i-test.true c.if-src-i-eq92.true c.if-j-src.true))

pub bounds-out-n-in-loop-i : goal.bounds-out-n-in-loop-i
bounds-out-n-in-loop-i c = search (written-room, unescape_some)

pub loop-i-preserved : goal.loop-i-preserved
loop-i-preserved c = (
  omega arith,
  elim c.if-src-i-eq92.branch [
    | then-src-i-eq92+else-j-src w ↦ search (written_more, unescape_stays_last)
    | else-src-i-eq92 w ↦ search (written_more, unescape-stays)
  ],
)

pub returns : goal.returns
returns c = search (written_end, unescape_end)
