-- `in_bare` meets its contract. Assumes nothing.
use Rattle.reading_matchers.specs.Matchers.{in_bare}
use Rattle.reading_matchers.proofs.Exits.{inside_bare_with}
use Rattle.reading_matchers.proofs.Stepping.{steps}
use Rattle.reading_matchers.proofs.in_bare.Goals as goal

pub returns-in_err-p : goal.returns-in_err-p
unfolding in_bare
returns-in_err-p c = search steps

pub returns : goal.returns
unfolding in_bare
returns c = search (steps, inside_bare_with)
