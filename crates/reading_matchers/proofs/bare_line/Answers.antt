-- `bare_line` meets its contract. Assumes nothing.
use borrow.Author.Rules.{rules}
use Rattle.reading_matchers.proofs.Exits.{bare-refused, bare-open, bare-goes}
use Rattle.reading_matchers.proofs.bare_line.Goals as goal

pub returns-in_err-q : goal.returns-in_err-q
returns-in_err-q c = search (rules, bare-refused)

pub returns-in_err-skip_at : goal.returns-in_err-skip_at
returns-in_err-skip_at c = search (rules, bare-open)

pub returns : goal.returns
returns c = search (rules, bare-goes)
