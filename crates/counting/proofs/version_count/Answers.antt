-- `version_count` meets its contract, by the laws of Nodes. Assumes nothing.
use Rattle.std.proofs.lemmas.Result.{err_from_is_err_and}
use Rattle.counting.proofs.Nodes.{count-refused, one-node, more_nodes}
use Rattle.counting.proofs.version_count.Goals as goal

pub returns-in_err-ask : goal.returns-in_err-ask
returns-in_err-ask c =
    let p = err_from_is_err_and c.from_residual.result c.from_residual.ensures.1 in
    rw (p.1, p.2) (count-refused _ _ c.ask.ensures _ c.in_err-ask.was _)

pub returns-then-c-eq1 : goal.returns-then-c-eq1
returns-then-c-eq1 c = one-node _ _ _ _ _ _ _ c.ask.ensures _ c.in_ok-ask.was c.if-c-eq1.true

pub returns : goal.returns
returns c = more_nodes _ _ _ _ _ _ _ c.ask.ensures _ c.in_ok-ask.was c.if-c-eq1.false
