-- `inside_body` meets its contract. Assumes nothing.
use Rattle.numbers.specs.Marks.{local}
use Rattle.reading_bodies.specs.Bodies.{inside_body}
use Rattle.reading_matchers.proofs.Stepping.{word_goes, word_missing, word_fits}
use Rattle.reading_bodies.proofs.Deciding.{goes-section, ways}
use Rattle.reading_bodies.proofs.inside_body.Goals as goal

pub overflow_add-p : goal.overflow_add-p
unfolding inside_body
overflow_add-p c = search (ways, word_fits)

pub returns-then-try_take : goal.returns-then-try_take
unfolding inside_body
returns-then-try_take c = search ways

pub overflow_add-p-then-try_take-2 : goal.overflow_add-p-then-try_take-2
unfolding inside_body
overflow_add-p-then-try_take-2 c = search (ways, word_fits)

pub returns-then-try_take-2 : goal.returns-then-try_take-2
unfolding inside_body
returns-then-try_take-2 c = search (word_goes, word_missing, goes-section c.args.c _ local c.with_section-then-try_take-2.ensures)

pub returns : goal.returns
unfolding inside_body
returns c = search ways
