-- `between_length` meets its contract: the first byte, and those before the next `]`. Assumes nothing.
use Rattle.pattern.proofs.BracketExits.{between_end, between_first}
use Rattle.pattern.proofs.bracket.between_length.Goals as goal

pub returns-then-rest-from : goal.returns-then-rest-from
returns-then-rest-from c = search between_end

pub returns : goal.returns
returns c = search between_first
