-- `all_stand` meets its contract. The loop's invariant: the lines from i on decide. Assumes nothing.
use Rattle.book_check.proofs.JournalChecks.{stand-starts, stand_stops, stand_more, stand-ends}
use Rattle.book_check.proofs.journal.all_stand.Goals as goal

pub loop-i-init : goal.loop-i-init
loop-i-init c = search stand-starts

pub returns-then-not-stands_now : goal.returns-then-not-stands_now
returns-then-not-stands_now c = search stand_stops

pub loop-i-preserved : goal.loop-i-preserved
loop-i-preserved c = search stand_more

pub returns : goal.returns
returns c = search stand-ends
