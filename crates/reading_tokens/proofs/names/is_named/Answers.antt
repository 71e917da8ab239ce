-- `is_named` meets its contract. Assumes nothing.
use borrow.Author.Tests.{ne_eqb}
use Rattle.reading_tokens.specs.Tokens.{named}
use Rattle.reading_tokens.proofs.names.is_named.Goals as goal

pub returns-then-b-ne10 : goal.returns-then-b-ne10
unfolding named
returns-then-b-ne10 c = search ne_eqb

pub returns-else-b-ne10 : goal.returns-else-b-ne10
unfolding named
returns-else-b-ne10 c = rw c.if-b-ne10.false

pub returns-else-b-ne125 : goal.returns-else-b-ne125
unfolding named
returns-else-b-ne125 c = rw c.if-b-ne125.false

pub returns-else-b-ne123 : goal.returns-else-b-ne123
unfolding named
returns-else-b-ne123 c = rw c.if-b-ne123.false

pub returns-else-b-ne41 : goal.returns-else-b-ne41
unfolding named
returns-else-b-ne41 c = rw c.if-b-ne41.false

pub returns-else-b-ne40 : goal.returns-else-b-ne40
unfolding named
returns-else-b-ne40 c = rw c.if-b-ne40.false

pub returns-else-b-ne32 : goal.returns-else-b-ne32
unfolding named
returns-else-b-ne32 c = rw c.if-b-ne32.false
