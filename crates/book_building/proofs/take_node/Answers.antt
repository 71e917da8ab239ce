-- `take_node` meets its contract: three ways to have no room, or the node is there. Assumes nothing.
use native.Mathlib.Omega.{arith}
use mathlib.Core.List.{[]}
use Rattle.book_building.proofs.NodeEvents.{node-added, node-refused}
use Rattle.book_building.proofs.take_node.Goals as goal

pub returns-then-n-ge-NODE_LIMIT : goal.returns-then-n-ge-NODE_LIMIT
returns-then-n-ge-NODE_LIMIT c =
    let a = c.args in
    node-refused a.g a.p a.name.now a.nodes.now a.names.now [] [] (λ r. omega (arith, r.number))

pub returns-then-nodes-n : goal.returns-then-nodes-n
returns-then-nodes-n c =
    let a = c.args in
    node-refused a.g a.p a.name.now a.nodes.now a.names.now [] [] (λ r. omega (arith, r.row))

pub returns-then-names-m : goal.returns-then-names-m
returns-then-names-m c =
    let a = c.args in
    node-refused a.g a.p a.name.now a.nodes.now a.names.now [] [] (λ r. omega (arith, r.name))

pub returns : goal.returns
returns c =
    let a = c.args in
    node-added a.g a.p a.name.now a.nodes.now a.names.now _ _ (record { number = omega arith; row = omega arith; name = omega arith }) (omega arith) c.put_three.ensures
    c.put_bytes.ensures
