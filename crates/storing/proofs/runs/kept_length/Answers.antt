-- `kept_length` meets its contract. The loop's invariant: the bytes counted, with those that are left, are all. Assumes nothing.
use Rattle.storing.proofs.Squeezing.{kept_none, kept_more, kept_less, kept_all}
use Rattle.storing.proofs.runs.kept_length.Goals as goal
use Rattle.storing.proofs.runs.kept_length.Goals.{then-is_some, else-is_some}

pub loop-i-init : goal.loop-i-init
loop-i-init c = search kept_none

pub loop-i-preserved : goal.loop-i-preserved
loop-i-preserved c = elim c.if-is_some.branch [ then-is_some w ↦ search kept_more | else-is_some w ↦ search kept_less ]

pub returns : goal.returns
returns c = search kept_all
