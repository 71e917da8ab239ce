-- `bare_extern_end` meets its contract. Assumes nothing.
use Rattle.reading_tokens.proofs.Enders.{bare-none_left, bare_some_left}
use Rattle.reading_tokens.proofs.bare_extern_end.Goals as goal

pub returns-then-last-at : goal.returns-then-last-at
returns-then-last-at c = search bare-none_left

pub returns : goal.returns
returns c = search bare_some_left
