-- `glob_match_unescape` meets its contract. Assumes nothing.
use Prim.Native.Nat.{◌≤◌}
use native.Mathlib.Omega.{arith}
use Rattle.numbers.specs.Limits.{token_limit}
use Rattle.glob_match.proofs.Telling.{unescape-over, unescape-refused, unescape-short, unescape-done}
use Rattle.glob_match.proofs.exports.glob_match_unescape.Goals as goal

pub returns-then-pattern-gt-TOKEN_LIMIT : goal.returns-then-pattern-gt-TOKEN_LIMIT
returns-then-pattern-gt-TOKEN_LIMIT c = unescape-over _ _ (omega (arith, c.if-pattern-gt-TOKEN_LIMIT.true))

pub overflow_mul-result : goal.overflow_mul-result
overflow_mul-result c =
    let short : c.in-Ok.stored.size ≤ token_limit = unescape-short _ _ (omega (arith, c.if-pattern-gt-TOKEN_LIMIT.false)) _ _ c.unescape_pattern.ensures _ c.in-Ok.is in
    omega (arith, short)

pub returns-in-Ok : goal.returns-in-Ok
returns-in-Ok c = unescape-done _ _ (omega (arith, c.if-pattern-gt-TOKEN_LIMIT.false)) _ _ c.unescape_pattern.ensures _ c.in-Ok.is

pub returns-in-Err : goal.returns-in-Err
returns-in-Err c = unescape-refused _ _ (omega (arith, c.if-pattern-gt-TOKEN_LIMIT.false)) _ _ c.unescape_pattern.ensures _ c.in-Err.is _ c.number.ensures
