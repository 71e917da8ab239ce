-- `to_semicolon` meets its contract. Assumes nothing.
use native.Mathlib.Omega.{arith}
use Rattle.reading_tokens.proofs.Enders.{semicolon_behind, semicolon_at_once, semicolon-missing}
use Rattle.reading_tokens.proofs.to_semicolon.Goals as goal

pub returns-in-Some : goal.returns-in-Some
returns-in-Some c = search semicolon_behind

pub returns-in_default : goal.returns-in_default
returns-in_default c = semicolon_at_once _ _ _ _ c.find.ensures _ c.in-Some.is (omega (arith, c.if-at-semicolon.false))

pub returns-in_default-2 : goal.returns-in_default-2
returns-in_default-2 c = search semicolon-missing
