-- `parse_token` meets its contract. The loop's invariant: the name from i on decides. Assumes nothing.
use mathlib.Core.Path.{◌≡◌}
use Rattle.reading_tokens.specs.Tokens.{name_end}
use Rattle.reading_tokens.proofs.parse_token.Given as goal

abbrev pub invariant-loop-i : goal.invariant-loop-i
invariant-loop-i l = name_end l.s l.at ≡ name_end l.s l.i
