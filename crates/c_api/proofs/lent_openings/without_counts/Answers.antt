-- `without_counts` meets its contract. Assumes nothing.
use borrow.Author.Tests.{le-ltb, lt-ltb}
use Rattle.c_api.proofs.lent_openings.without_counts.Goals as goal

pub returns-then-text-gt-SCRIPT_LIMIT : goal.returns-then-text-gt-SCRIPT_LIMIT
returns-then-text-gt-SCRIPT_LIMIT c = rw (lt-ltb _ _ c.if-text-gt-SCRIPT_LIMIT.true)

pub returns : goal.returns
returns c = rw (le-ltb _ _ c.if-text-gt-SCRIPT_LIMIT.false)
