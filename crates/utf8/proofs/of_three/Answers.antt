-- `of_three` meets its contract: it refuses where a test of `three` fails. Assumes nothing.
use Rattle.utf8.specs.Utf8.{three}
use Rattle.utf8.proofs.Exits.{tests}
use Rattle.utf8.proofs.of_three.Goals as goal

pub returns-then-not-is_tail : goal.returns-then-not-is_tail
unfolding three
returns-then-not-is_tail c = search tests

pub returns-then-not-is_tail-2 : goal.returns-then-not-is_tail-2
unfolding three
returns-then-not-is_tail-2 c = search tests

pub returns-then-v-lt2048 : goal.returns-then-v-lt2048
unfolding three
returns-then-v-lt2048 c = search tests

pub returns-then-not-is_scalar : goal.returns-then-not-is_scalar
unfolding three
returns-then-not-is_scalar c = search tests

pub returns : goal.returns
unfolding three
returns c = search tests depth 9
