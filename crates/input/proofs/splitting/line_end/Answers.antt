-- `line_end` meets its contract. Assumes nothing.
use Rattle.input.specs.Splitting.{line_end}
use Rattle.input.proofs.Ends.{line-within}
use Rattle.input.proofs.splitting.line_end.Goals as goal

pub returns-clause-end : goal.returns-clause-end
unfolding line_end
returns-clause-end c = rw (← c.find.ensures) c.unwrap_or.ensures

pub returns-clause-within : goal.returns-clause-within
unfolding line_end
returns-clause-within c = λ h. line-within _ _ _ h (rw (← c.find.ensures) c.unwrap_or.ensures)
