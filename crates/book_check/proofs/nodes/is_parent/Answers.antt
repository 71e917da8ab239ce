-- `is_parent` meets its contract, part by part. Assumes nothing.
use native.Mathlib.Omega.{arith}
use Rattle.book_check.proofs.NodeChecks.{parent_none, parent-late, parent-lies, own_lies, parent-long, parent-nowhere, parent-again, parent-ends}
use Rattle.book_check.proofs.nodes.is_parent.Goals as goal

pub returns-then-p-eq0 : goal.returns-then-p-eq0
returns-then-p-eq0 c = search parent_none

pub returns-then-i-q : goal.returns-then-i-q
returns-then-i-q c = parent-late _ _ _ c.if-p-eq0.false (omega (arith, c.if-i-q.true))

pub node_name-parent-requires : goal.node_name-parent-requires
node_name-parent-requires c = search parent-lies

pub node_name-requires : goal.node_name-requires
node_name-requires c = search own_lies

pub returns-then-is_over_limit : goal.returns-then-is_over_limit
returns-then-is_over_limit c = search parent-long

pub returns-then-first-q : goal.returns-then-first-q
returns-then-first-q c = search parent-again

pub returns-in-None : goal.returns-in-None
returns-in-None c = search parent-nowhere

pub returns-else-first-q : goal.returns-else-first-q
returns-else-first-q c =
    parent-ends _ _ _ _ c.requires.0 _ _ c.requires.1 (omega (arith, c.if-i-q.false)) _ _ c.node_name.ensures
    c.node_name-parent.ensures c.if-p-eq0.false _ c.is_over_limit.ensures c.if-is_over_limit.false
    _ c.first_named.ensures _ _ c.in-Some.is (omega (arith, c.if-first-q.false))
    c.has_no_semicolon.ensures
