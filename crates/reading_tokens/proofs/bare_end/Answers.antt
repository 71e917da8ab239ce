-- `bare_end` meets its contract. Assumes nothing.
use Rattle.reading_tokens.proofs.Enders.{bare_all, bare-to_brace, bare_at_once}
use Rattle.reading_tokens.proofs.bare_end.Goals as goal

pub returns-in-Some-eq0 : goal.returns-in-Some-eq0
returns-in-Some-eq0 c = bare_at_once _ _ _ c.find.ensures _ c.in-Some-eq0.is c.in-Some-eq0.field-0-test

pub returns-in-Some : goal.returns-in-Some
returns-in-Some c = bare-to_brace _ _ _ c.find.ensures _ c.in-Some.is c.in-Some.q-test.1

pub returns-in-None : goal.returns-in-None
returns-in-None c = search bare_all
