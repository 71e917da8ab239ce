-- `take_parent` meets its contract. Assumes nothing.
use native.Mathlib.Omega.{arith}
use mathlib.Core.Path.{refl}
use mathlib.Core.List.{[]}
use Rattle.book.proofs.NodeRows.{nodes_packed}
use Rattle.book.specs.Layout.{node_form}
use Rattle.book_building.proofs.NodeEvents.{parent_none, parent-refused, parent-set, parent-unknown}
use Rattle.book_building.proofs.take_parent.Goals as goal

pub returns-then-parent-eq0 : goal.returns-then-parent-eq0
returns-then-parent-eq0 c =
    let a = c.args in
    parent_none a.g a.p a.nodes.now a.names.now a.parent.now c.if-parent-eq0.true

pub returns-then-i-q : goal.returns-then-i-q
returns-then-i-q c =
    let a = c.args in
    parent-refused a.g a.p a.nodes.now a.names.now c.first_named.result _ c.in-Some.is a.parent.now [] c.if-parent-eq0.false c.first_named.ensures (omega arith)

pub bounds-nodes-i : goal.bounds-nodes-i
unfolding node_form
bounds-nodes-i c =
    let a = c.args in
    omega (arith, (nodes_packed a.g.nodes a.g.names a.nodes.now a.names.now c.requires.0).rowroom)

pub returns-in-None : goal.returns-in-None
returns-in-None c =
    let a = c.args in
    parent-unknown a.g a.p a.nodes.now a.names.now c.first_named.result a.parent.now [] c.if-parent-eq0.false c.first_named.ensures c.in-None.is

pub returns-else-i-q : goal.returns-else-i-q
returns-else-i-q c =
    let a = c.args in
    parent-set a.g a.p a.nodes.now a.names.now c.first_named.result _ c.in-Some.is a.parent.now _ c.if-parent-eq0.false c.first_named.ensures (omega arith) refl
