-- `parse_bare_matcher` meets its contract. Assumes nothing.
use Rattle.reading_matchers.specs.Matchers.{bare_matcher}
use Rattle.reading_matchers.proofs.Exits.{bare_with}
use Rattle.reading_matchers.proofs.Stepping.{steps, word_within}
use Rattle.reading_matchers.proofs.parse_bare_matcher.Goals as goal

pub extern_at-requires : goal.extern_at-requires
unfolding bare_matcher
extern_at-requires c = search (steps, word_within)

pub returns-then-try_take : goal.returns-then-try_take
unfolding bare_matcher
returns-then-try_take c = search steps

pub returns : goal.returns
unfolding bare_matcher
returns c = search (steps, bare_with)
