-- `is_as_stored` meets its contract. The loop's invariant: what is left from i on decides. Assumes nothing.
use Rattle.storing.proofs.Plain.{plain-unchanged}
use Rattle.storing.proofs.Squeezing.{unchanged_none, unchanged_other, unchanged_more, unchanged_all}
use Rattle.storing.proofs.runs.is_as_stored.Goals as goal

pub returns-then-is_plain : goal.returns-then-is_plain
returns-then-is_plain c = search plain-unchanged

pub loop-i-init : goal.loop-i-init
loop-i-init c = search unchanged_none

pub returns-then-ne : goal.returns-then-ne
returns-then-ne c = search unchanged_other

pub loop-i-preserved : goal.loop-i-preserved
loop-i-preserved c = search unchanged_more

pub returns : goal.returns
returns c = search unchanged_all
