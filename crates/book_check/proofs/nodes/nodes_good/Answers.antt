-- `nodes_good` meets its contract. The loop's invariant: what is left from node i on decides. Assumes nothing.
use mathlib.Core.Path.{◌≡◌}
use native.Mathlib.Omega.{arith}
use lib.ListN.{get_or}
use Rattle.book_check.proofs.NodeChecks.{nodes_none, root_first, root_second, root_named, root_below, nodes_start, judged_lies, node_misnamed, node_misplaced, nodes_more, nodes_end}
use mathlib.Core.Path.{ap}
use mathlib.Core.Bool.{not}
use Rattle.book_check.proofs.nodes.nodes_good.Goals as goal

pub returns-then-n-eq0 : goal.returns-then-n-eq0
returns-then-n-eq0 c = search nodes_none

pub bounds-nodes-1 : goal.bounds-nodes-1
bounds-nodes-1 c = search root_first

pub returns-then-nodes-ne0 : goal.returns-then-nodes-ne0
returns-then-nodes-ne0 c = search root_named

pub bounds-nodes-2 : goal.bounds-nodes-2
bounds-nodes-2 c = search root_second

pub returns-then-nodes-ne0-2 : goal.returns-then-nodes-ne0-2
returns-then-nodes-ne0-2 c = search root_below

pub loop-i-init : goal.loop-i-init
loop-i-init c =
    let unnamed : get_or c.args.nodes.now 1 0 ≡ 0 = omega (arith, c.if-nodes-ne0.false) in
    let parentless : get_or c.args.nodes.now 2 0 ≡ 0 = omega (arith, c.if-nodes-ne0-2.false) in
    nodes_start _ _ _ _ c.requires (λ q. omega (arith, c.if-n-eq0.false)) unnamed parentless

pub node_name-requires : goal.node_name-requires
node_name-requires c = search judged_lies

pub returns-then-not-is_name : goal.returns-then-not-is_name
returns-then-not-is_name c = search node_misnamed

pub returns-then-not-is_parent : goal.returns-then-not-is_parent
returns-then-not-is_parent c = search node_misplaced

pub loop-i-preserved : goal.loop-i-preserved
loop-i-preserved c =
    nodes_more c.loop-i.invariant c.loop-i-test.true c.node_name.ensures c.is_name.ensures
    c.is_parent.ensures (ap not c.if-not-is_name.false) (ap not c.if-not-is_parent.false)

pub returns : goal.returns
returns c = search nodes_end
