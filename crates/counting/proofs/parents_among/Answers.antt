-- `parents_among` meets its contract. The loop's invariant: the parents that are counted and those from row i on are all. Assumes nothing.
use Rattle.counting.proofs.Nodes.{counting_starts, counting_more, counting_same, counting_ends}
use Rattle.counting.proofs.parents_among.Goals as goal

pub loop-i-init : goal.loop-i-init
loop-i-init c = search counting_starts

pub loop-i-preserved-then-nodes-i-eq0 : goal.loop-i-preserved-then-nodes-i-eq0
loop-i-preserved-then-nodes-i-eq0 c = search counting_same

pub loop-i-preserved : goal.loop-i-preserved
loop-i-preserved c = search counting_more

pub returns : goal.returns
returns c = search counting_ends
