-- `extern_inside` meets its contract. Assumes nothing.
use Rattle.reading_matchers.specs.Matchers.{extern_inside}
use Rattle.reading_matchers.proofs.Exits.{go-in_language}
use Rattle.reading_matchers.proofs.Stepping.{steps, word_fits}
use Rattle.reading_matchers.proofs.extern_inside.Goals as goal

pub overflow_add-p : goal.overflow_add-p
unfolding extern_inside
overflow_add-p c = search (steps, word_fits)

pub returns-in_err-r : goal.returns-in_err-r
unfolding extern_inside
returns-in_err-r c = search steps

pub returns-then-try_take : goal.returns-then-try_take
unfolding extern_inside
returns-then-try_take c = search (steps, go-in_language)

pub returns-then-try_take-2 : goal.returns-then-try_take-2
unfolding extern_inside
returns-then-try_take-2 c = search steps

pub returns : goal.returns
unfolding extern_inside
returns c = search steps
