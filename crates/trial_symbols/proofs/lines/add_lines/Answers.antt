-- `add_lines` meets its contract. The loop's invariant, `Going`: the buffers hold the book with the lines so far, and what is left to read decides. Each event
-- moves on in the text. Assumes nothing.
use mathlib.Core.Path.{ap, ◌∙◌}
use Rattle.std.specs.Prelude.{Ok}
use borrow.Author.Rules.{rules}
use Rattle.trial_symbols.proofs.AddedTexts.{going_starts, going_ends, going_back, going_refused, going_no, going_onward, going_on}
use Rattle.trial_symbols.proofs.AddedTexts.{now_laid, some_nodes, event_lies}
use Rattle.trial_symbols.proofs.lines.add_lines.Goals as goal

pub loop-e-init : goal.loop-e-init
loop-e-init c = search going_starts

pub returns-in-Ok-None : goal.returns-in-Ok-None
returns-in-Ok-None c = going_ends c.loop-e.invariant c.next_event.ensures (c.in-Ok-None.is ∙ ap Ok c.in-Ok-None.field-0-is)

pub clear_added-requires-in-Err : goal.clear_added-requires-in-Err
clear_added-requires-in-Err c = let h = going_back c.loop-e.invariant in search rules

pub returns-in-Err : goal.returns-in-Err
returns-in-Err c = going_refused c.loop-e.invariant c.next_event.ensures c.in-Err.is c.clear_added-in-Err.ensures c.number.ensures

pub add_event-requires : goal.add_event-requires
add_event-requires c = search (now_laid, some_nodes, event_lies)

pub clear_added-requires : goal.clear_added-requires
clear_added-requires c = let h = going_back c.loop-e.invariant in search rules

pub shape_of-lines-in-Err-add_event : goal.shape_of-lines-in-Err-add_event
shape_of-lines-in-Err-add_event c = let i = c.loop-e.invariant in search rules

pub shape_of-pool-in-Err-add_event : goal.shape_of-pool-in-Err-add_event
shape_of-pool-in-Err-add_event c = let i = c.loop-e.invariant in search rules

pub shape_of-journal-in-Err-add_event : goal.shape_of-journal-in-Err-add_event
shape_of-journal-in-Err-add_event c = let i = c.loop-e.invariant in search rules

pub returns-in-Err-add_event : goal.returns-in-Err-add_event
returns-in-Err-add_event c =
    let t = c.clear_added.ensures in
    going_no c.loop-e.invariant c.next_event.ensures c.in-Ok-Some.is c.in-Ok-Some.field-0-is c.add_event.ensures c.in-Err-add_event.is t

pub loop-e-smaller : goal.loop-e-smaller
loop-e-smaller c = search going_onward

pub loop-e-preserved : goal.loop-e-preserved
loop-e-preserved c = search going_on
