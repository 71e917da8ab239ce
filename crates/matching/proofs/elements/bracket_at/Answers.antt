-- `bracket_at` meets its contract. Assumes nothing.
use borrow.Author.Rules.{rules}
use Rattle.matching.proofs.ElementExits.{bracket_takes, bracket-fails, past-within}
use Rattle.matching.proofs.elements.bracket_at.Goals as goal

pub overflow_add-result : goal.overflow_add-result
overflow_add-result c = search (rules, past-within _ _ _ _ c.bracket_takes-b.ensures)

pub returns-then-b : goal.returns-then-b
returns-then-b c = search bracket_takes

pub returns-else-b : goal.returns-else-b
returns-else-b c = search bracket-fails
