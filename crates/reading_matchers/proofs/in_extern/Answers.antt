-- `in_extern` meets its contract. Assumes nothing.
use Rattle.reading_matchers.specs.Matchers.{in_extern}
use Rattle.reading_matchers.proofs.Exits.{inside_with}
use Rattle.reading_matchers.proofs.Stepping.{steps}
use Rattle.reading_matchers.proofs.in_extern.Goals as goal

pub returns-in_err-p : goal.returns-in_err-p
unfolding in_extern
returns-in_err-p c = search steps

pub returns : goal.returns
unfolding in_extern
returns c = search (steps, inside_with)
