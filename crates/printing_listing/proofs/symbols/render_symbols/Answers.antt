-- `render_symbols` meets its contract. The loop's invariant: the answers to the lines before `at` stand, and the others are left. Assumes nothing.
use native.Mathlib.Omega.{arith}
use Rattle.printing_listing.proofs.Answers.{answers_end, answers_start, last_put, last_room, line_ends, line_put, line_room, line_starts, next_less, next_within}
use Rattle.printing_listing.proofs.symbols.render_symbols.Goals as goal

pub loop-at-init : goal.loop-at-init
loop-at-init c = answers_start

pub slice_bounds-put_answer-count : goal.slice_bounds-put_answer-count
slice_bounds-put_answer-count c = line_starts c.loop-at.invariant c.find.ensures c.in-Some.is

pub slice_bounds-put_answer-start : goal.slice_bounds-put_answer-start
slice_bounds-put_answer-start c = line_starts c.loop-at.invariant c.find.ensures c.in-Some.is

pub slice_bounds-put_answer-end : goal.slice_bounds-put_answer-end
slice_bounds-put_answer-end c = line_ends c.loop-at.invariant c.find.ensures c.in-Some.is

pub put_answer-end-requires : goal.put_answer-end-requires
put_answer-end-requires c = line_room c.loop-at.invariant c.requires c.find.ensures c.in-Some.is

pub overflow_add-at : goal.overflow_add-at
overflow_add-at c =
    let z = next_within c.loop-at.invariant c.find.ensures c.in-Some.is in
    let g = c.well_formed in
    omega arith

pub loop-at-smaller : goal.loop-at-smaller
loop-at-smaller c = omega (arith, next_less c.loop-at.invariant c.find.ensures c.in-Some.is)

pub loop-at-preserved : goal.loop-at-preserved
loop-at-preserved c = line_put c.loop-at.invariant c.requires c.find.ensures c.in-Some.is c.put_answer-end.ensures

pub put_answer-requires : goal.put_answer-requires
put_answer-requires c = last_room c.loop-at.invariant c.loop-at-test.true c.requires

pub returns-in-None : goal.returns-in-None
returns-in-None c =
    last_put c.loop-at.invariant c.loop-at-test.true c.requires c.find.ensures c.in-None.is
    c.put_answer.ensures

pub returns : goal.returns
returns c = answers_end c.loop-at.invariant (omega (arith, c.loop-at-test.false))
