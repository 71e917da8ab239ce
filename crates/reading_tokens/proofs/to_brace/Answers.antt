-- `to_brace` meets its contract. Assumes nothing.
use Rattle.reading_tokens.proofs.Enders.{brace_behind, brace_at_once, brace-missing}
use Rattle.reading_tokens.proofs.to_brace.Goals as goal

pub returns-in-Some : goal.returns-in-Some
returns-in-Some c = search brace_behind

pub returns-in-Some-2 : goal.returns-in-Some-2
returns-in-Some-2 c = search brace_at_once

pub returns-in-None : goal.returns-in-None
returns-in-None c = search brace-missing
