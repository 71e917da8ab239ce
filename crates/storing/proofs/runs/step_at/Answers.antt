-- `step_at` meets its contract. Assumes nothing.
use Rattle.storing.proofs.Squeezing.{step-within, step-star, step-bracket, step_other}
use Rattle.storing.proofs.runs.step_at.Goals as goal

pub returns-then-w-ne0 : goal.returns-then-w-ne0
returns-then-w-ne0 c = search step-within

pub returns-then-c-eq42 : goal.returns-then-c-eq42
returns-then-c-eq42 c = search step-star

pub returns-then-opened : goal.returns-then-opened
returns-then-opened c = search step-bracket

pub returns : goal.returns
returns c = search step_other
