-- `glob_match_class` meets its contract. Assumes nothing.
use native.Mathlib.Omega.{arith}
use Rattle.glob_match.proofs.Telling.{class-over, class-within}
use Rattle.glob_match.proofs.exports.glob_match_class.Goals as goal

pub returns-then-token-gt-TOKEN_LIMIT : goal.returns-then-token-gt-TOKEN_LIMIT
returns-then-token-gt-TOKEN_LIMIT c = class-over _ (omega (arith, c.if-token-gt-TOKEN_LIMIT.true))

pub returns : goal.returns
returns c = class-within _ (omega (arith, c.if-token-gt-TOKEN_LIMIT.false)) _ c.classify.ensures _ c.class_number.ensures
