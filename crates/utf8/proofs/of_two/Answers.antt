-- `of_two` meets its contract: it refuses where a test of `two` fails. Assumes nothing.
use Rattle.utf8.specs.Utf8.{two}
use Rattle.utf8.proofs.Exits.{tests}
use Rattle.utf8.proofs.of_two.Goals as goal

pub returns-then-not-is_tail : goal.returns-then-not-is_tail
unfolding two
returns-then-not-is_tail c = search tests

pub returns : goal.returns
unfolding two
returns c = search tests
