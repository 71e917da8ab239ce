-- `extern_at` meets its contract. Assumes nothing.
use Rattle.reading_matchers.specs.Matchers.{extern_at}
use Rattle.reading_matchers.proofs.Stepping.{steps}
use Rattle.reading_matchers.proofs.extern_at.Goals as goal

pub overflow_add-p : goal.overflow_add-p
unfolding extern_at
overflow_add-p c = search steps

pub try_take-requires : goal.try_take-requires
unfolding extern_at
try_take-requires c = search steps

pub overflow_add-p-then-try_take : goal.overflow_add-p-then-try_take
unfolding extern_at
overflow_add-p-then-try_take c = search steps

pub extern_open-requires : goal.extern_open-requires
unfolding extern_at
extern_open-requires c = search steps

pub returns-then-try_take : goal.returns-then-try_take
unfolding extern_at
returns-then-try_take c = search steps

pub overflow_add-p-2 : goal.overflow_add-p-2
unfolding extern_at
overflow_add-p-2 c = search steps

pub try_take-requires-2 : goal.try_take-requires-2
unfolding extern_at
try_take-requires-2 c = search steps

pub overflow_add-p-then-try_take-2 : goal.overflow_add-p-then-try_take-2
unfolding extern_at
overflow_add-p-then-try_take-2 c = search steps

pub extern_open-requires-then-try_take-2 : goal.extern_open-requires-then-try_take-2
unfolding extern_at
extern_open-requires-then-try_take-2 c = search steps

pub returns-then-try_take-2 : goal.returns-then-try_take-2
unfolding extern_at
returns-then-try_take-2 c = search steps

pub returns : goal.returns
unfolding extern_at
returns c = search steps
