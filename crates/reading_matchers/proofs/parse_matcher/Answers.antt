-- `parse_matcher` meets its contract. Assumes nothing.
use Rattle.reading_matchers.specs.Matchers.{matcher}
use Rattle.reading_matchers.proofs.Exits.{line_with}
use Rattle.reading_matchers.proofs.Stepping.{steps, word_within}
use Rattle.reading_matchers.proofs.parse_matcher.Goals as goal

pub extern_at-requires : goal.extern_at-requires
unfolding matcher
extern_at-requires c = search (steps, word_within)

pub returns-then-try_take : goal.returns-then-try_take
unfolding matcher
returns-then-try_take c = search steps

pub returns : goal.returns
unfolding matcher
returns c = search (steps, line_with)
