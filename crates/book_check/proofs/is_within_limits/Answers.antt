-- `is_within_limits` meets its contract, by the laws of Holding. Assumes nothing.
use Prim.Native.Nat.{◌≤◌}
use native.Mathlib.Omega.{arith}
use Rattle.numbers.specs.Limits.{line_limit, node_limit, pool_limit}
use Rattle.book_check.proofs.Holding.{nodes-over, lines-over, pool-over, edits_decide}
use Rattle.book_check.proofs.is_within_limits.Goals as goal

pub returns-then-c-gt-NODE_LIMIT : goal.returns-then-c-gt-NODE_LIMIT
returns-then-c-gt-NODE_LIMIT c = nodes-over _ (omega (arith, c.if-c-gt-NODE_LIMIT.true))

pub returns-then-c-gt-LINE_LIMIT : goal.returns-then-c-gt-LINE_LIMIT
returns-then-c-gt-LINE_LIMIT c = lines-over _ (omega (arith, c.if-c-gt-LINE_LIMIT.true))

pub returns-then-c-gt-POOL_LIMIT : goal.returns-then-c-gt-POOL_LIMIT
returns-then-c-gt-POOL_LIMIT c = pool-over _ (omega (arith, c.if-c-gt-POOL_LIMIT.true))

pub returns : goal.returns
returns c =
    let few_nodes : c.args.c.nodes ≤ node_limit = omega (arith, c.if-c-gt-NODE_LIMIT.false) in
    let few_lines : c.args.c.lines ≤ line_limit = omega (arith, c.if-c-gt-LINE_LIMIT.false) in
    let few_bytes : c.args.c.pool ≤ pool_limit = omega (arith, c.if-c-gt-POOL_LIMIT.false) in
    edits_decide _ few_nodes few_lines few_bytes
