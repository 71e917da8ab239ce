-- `build` meets its contract. The loop's invariant, `Going`: the buffers hold what was read so far, and what is left to read decides. Each event moves
-- on in the text. Assumes nothing.
use mathlib.Core.Path.{ap, ◌∙◌}
use Rattle.std.specs.Prelude.{Ok}
use borrow.Author.Rules.{rules}
use Rattle.book_opening.proofs.Opens.{event_lies, finished-asks, going_ends, going_no, going_on, going_onward, going_refused, going_starts}
use Rattle.book_opening.proofs.events.build.Goals as goal

pub loop-e-init : goal.loop-e-init
loop-e-init c =
    let a = c.args in
    let p = c.requires in
    going_starts a.place a.s.now a.nodes.now a.names.now a.lines.now a.pool.now _ c.start_at-c.ensures p.1 p.2

pub finished-requires : goal.finished-requires
finished-requires c =
    let o = c.loop-e in
    finished-asks _ _ _ _ _ _ _ _ _ _ _ _ o.invariant c.next_event.result c.next_event.ensures

pub returns-in-Ok-None : goal.returns-in-Ok-None
returns-in-Ok-None c =
    let o = c.loop-e in
    going_ends _ _ _ _ _ _ _ _ _ _ _ _ o.invariant c.next_event.result c.next_event.ensures _ (c.in-Ok-None.is ∙ ap Ok c.in-Ok-None.field-0-is) c.finished.ensures

pub returns-in-Err : goal.returns-in-Err
returns-in-Err c =
    let o = c.loop-e in
    going_refused _ _ _ _ _ _ _ _ _ _ _ _ o.invariant c.next_event.result c.next_event.ensures _ c.in-Err.is _ c.number.ensures

pub take_event-requires : goal.take_event-requires
take_event-requires c =
    let o = c.loop-e in
    (o.invariant.holds, c.requires.0, event_lies _ _ _ _ _ _ _ _ _ _ _ _ o.invariant c.next_event.result c.next_event.ensures _ _ (c.in-Ok-Some.is ∙ ap Ok c.in-Ok-Some.field-0-is))

pub returns-in-No : goal.returns-in-No
returns-in-No c =
    let o = c.loop-e in
    going_no _ _ _ _ _ _ _ _ _ _ _ _ o.invariant c.next_event.result c.next_event.ensures _ _
    (c.in-Ok-Some.is ∙ ap Ok c.in-Ok-Some.field-0-is) c.take_event.result _ _
    c.take_event.new.nodes c.take_event.new.names c.take_event.new.lines
    c.take_event.new.pool c.in-No.is
    c.take_event.ensures

pub loop-e-smaller : goal.loop-e-smaller
loop-e-smaller c =
    let o = c.loop-e in
    going_onward _ _ _ _ _ _ _ _ _ _ _ _ o.invariant c.next_event.result c.next_event.ensures _ _
    (c.in-Ok-Some.is ∙ ap Ok c.in-Ok-Some.field-0-is)

pub loop-e-preserved : goal.loop-e-preserved
loop-e-preserved c =
    let o = c.loop-e in
    going_on _ _ _ _ _ _ _ _ _ _ _ _ o.invariant c.next_event.result c.next_event.ensures _ _
    (c.in-Ok-Some.is ∙ ap Ok c.in-Ok-Some.field-0-is) c.take_event.result _
    c.take_event.new.nodes c.take_event.new.names c.take_event.new.lines
    c.take_event.new.pool c.in-On.is
    c.take_event.ensures (search rules) (search rules) (search rules) (search rules)
