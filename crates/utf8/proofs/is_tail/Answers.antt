-- `is_tail` meets its contract. Assumes nothing.
use borrow.Author.Tests.{le-leb, lt-leb}
use Rattle.utf8.specs.Utf8.{tail}
use Rattle.utf8.proofs.is_tail.Goals as goal

pub returns-then-b-ge128 : goal.returns-then-b-ge128
unfolding tail
returns-then-b-ge128 c = search le-leb

pub returns-else-b-ge128 : goal.returns-else-b-ge128
unfolding tail
returns-else-b-ge128 c = search lt-leb
