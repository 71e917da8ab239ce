-- `of_four` meets its contract: it refuses where a test of `four` fails. Assumes nothing.
use Rattle.utf8.specs.Utf8.{four}
use Rattle.utf8.proofs.Exits.{tests}
use Rattle.utf8.proofs.of_four.Goals as goal

pub returns-then-not-is_tail : goal.returns-then-not-is_tail
unfolding four
returns-then-not-is_tail c = search tests

pub returns-then-not-is_tail-2 : goal.returns-then-not-is_tail-2
unfolding four
returns-then-not-is_tail-2 c = search tests

pub returns-then-not-is_tail-3 : goal.returns-then-not-is_tail-3
unfolding four
returns-then-not-is_tail-3 c = search tests

pub returns-then-v-lt65536 : goal.returns-then-v-lt65536
unfolding four
returns-then-v-lt65536 c = search tests

pub returns-then-v-gt1114111 : goal.returns-then-v-gt1114111
unfolding four
returns-then-v-gt1114111 c = search tests

pub returns : goal.returns
unfolding four
returns c = search tests depth 9
