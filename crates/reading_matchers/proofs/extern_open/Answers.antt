-- `extern_open` meets its contract. Assumes nothing.
use Rattle.reading_matchers.specs.Matchers.{extern_open}
use Rattle.reading_matchers.proofs.Exits.{go-in_language}
use Rattle.reading_matchers.proofs.Stepping.{steps}
use Rattle.reading_matchers.proofs.extern_open.Goals as goal

pub returns-in_err-r : goal.returns-in_err-r
unfolding extern_open
returns-in_err-r c = search steps

pub returns-then-byte_at-ne123 : goal.returns-then-byte_at-ne123
unfolding extern_open
returns-then-byte_at-ne123 c = search steps

pub returns : goal.returns
unfolding extern_open
returns c = search (steps, go-in_language)
