-- `past_semicolon` meets its contract. Assumes nothing.
use borrow.Author.Rules.{rules}
use Rattle.reading_matchers.proofs.Exits.{semicolon-taken, semicolon_not_there}
use Rattle.reading_matchers.proofs.Stepping.{byte_fits}
use Rattle.reading_matchers.proofs.past_semicolon.Goals as goal

pub overflow_add-result : goal.overflow_add-result
overflow_add-result c = search (rules, byte_fits)

pub returns-then-byte_at-eq59 : goal.returns-then-byte_at-eq59
returns-then-byte_at-eq59 c = search semicolon-taken

pub returns : goal.returns
returns c = search semicolon_not_there
