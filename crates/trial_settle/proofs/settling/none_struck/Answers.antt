-- `none_struck` meets its contract. The loop's invariant: the lines from number i on decide. Assumes nothing.
use Rattle.trial_settle.proofs.Unstruck.{none_starts, none_stops, none_more, none_ends}
use Rattle.trial_settle.proofs.settling.none_struck.Goals as goal

pub loop-i-init : goal.loop-i-init
loop-i-init c = search none_starts

pub returns-then-is_struck : goal.returns-then-is_struck
returns-then-is_struck c = search none_stops

pub loop-i-preserved : goal.loop-i-preserved
loop-i-preserved c = none_more _ _ _ _ c.loop-i.invariant c.loop-i-test.true _ c.is_struck.ensures c.if-is_struck.false

pub returns : goal.returns
returns c = search none_ends
