-- `parse_token` meets its contract. The loop's invariant: the name from i on decides. Assumes nothing.
use Rattle.reading_tokens.proofs.Words.{name_all, name_stops, name-goes}
use Rattle.reading_tokens.proofs.parse_token.Goals as goal

pub returns-then-not-is_named : goal.returns-then-not-is_named
returns-then-not-is_named c = search name_stops

pub loop-i-preserved : goal.loop-i-preserved
loop-i-preserved c = search name-goes

pub returns : goal.returns
returns c = name_all _ _ _ c.loop-i.invariant c.loop-i-test.false c.loop-i.auto.i-end _ c.max.ensures
