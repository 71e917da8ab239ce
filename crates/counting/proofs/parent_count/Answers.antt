-- `parent_count` meets its contract, by the laws of Nodes. Assumes nothing.
use Rattle.std.proofs.lemmas.Result.{err_from_is_err_and}
use Rattle.counting.proofs.Nodes.{count-refused, asks-parents, parents-counted}
use Rattle.counting.proofs.parent_count.Goals as goal

pub returns-in_err-ask : goal.returns-in_err-ask
returns-in_err-ask c =
    let p = err_from_is_err_and c.from_residual.result c.from_residual.ensures.1 in
    rw (p.1, p.2) (count-refused _ _ c.ask.ensures _ c.in_err-ask.was _)

pub parents_among-requires : goal.parents_among-requires
parents_among-requires c = asks-parents _ _ _ _ _ _ _ c.ask.ensures _ c.in_ok-ask.was

pub returns : goal.returns
returns c = parents-counted _ _ _ _ _ _ _ c.ask.ensures _ c.in_ok-ask.was _ c.parents_among.ensures
