-- `version_node` meets its contract, by the laws of Nodes. Assumes nothing.
use Rattle.std.proofs.lemmas.Result.{err_from_is_err_and}
use Rattle.counting.proofs.Nodes.{node-refused, node-missing, start_within, length-within, parent-within, node-there}
use Rattle.counting.proofs.version_node.Goals as goal

pub returns-in_err-ask : goal.returns-in_err-ask
returns-in_err-ask c =
    let p = err_from_is_err_and c.from_residual.result c.from_residual.ensures.1 in
    rw (p.1, p.2) (node-refused _ _ c.ask.ensures _ c.in_err-ask.was _)

pub returns-then-c-node : goal.returns-then-c-node
returns-then-c-node c = node-missing _ _ _ _ _ _ _ c.ask.ensures _ c.in_ok-ask.was _ c.if-c-node.true

pub bounds-book-at : goal.bounds-book-at
bounds-book-at c = start_within _ _ _ _ _ _ _ c.ask.ensures _ c.in_ok-ask.was _ c.if-c-node.false

pub bounds-book-at-2 : goal.bounds-book-at-2
bounds-book-at-2 c = length-within _ _ _ _ _ _ _ c.ask.ensures _ c.in_ok-ask.was _ c.if-c-node.false

pub bounds-book-at-3 : goal.bounds-book-at-3
bounds-book-at-3 c = parent-within _ _ _ _ _ _ _ c.ask.ensures _ c.in_ok-ask.was _ c.if-c-node.false

pub returns : goal.returns
returns c = node-there _ _ _ _ _ _ _ c.ask.ensures _ c.in_ok-ask.was _ c.if-c-node.false
