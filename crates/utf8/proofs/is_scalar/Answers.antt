-- `is_scalar` meets its contract. Assumes nothing.
use borrow.Author.Tests.{le-leb, lt-leb, le-ltb}
use Rattle.utf8.specs.Utf8.{scalar}
use Rattle.utf8.proofs.is_scalar.Goals as goal

pub returns-then-c-lt55296 : goal.returns-then-c-lt55296
unfolding scalar
returns-then-c-lt55296 c = search le-leb

pub returns-else-c-lt55296 : goal.returns-else-c-lt55296
unfolding scalar
returns-else-c-lt55296 c = search (le-leb, le-ltb)

pub returns-else-c-le1114111 : goal.returns-else-c-le1114111
unfolding scalar
returns-else-c-le1114111 c = search lt-leb
