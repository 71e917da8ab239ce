-- `divide` is safe and ends: the text before the mark lies within the input, and so do the commands, which are no longer than it. Assumes nothing.
use borrow.Author.Rules.{rules}
use native.Mathlib.Omega.{arith}
use lib.ListN.{length-drop, length-take}
use Rattle.trial_desk.proofs.Parts.{text-count, text-within}
use Rattle.trial_desk.proofs.divide.Goals as goal

pub sit-requires : goal.sit-requires
sit-requires g c =
    let few = c.if-input-gt-INPUT_LIMIT.false in
    simp length-take (omega (arith, few))

pub slice_bounds-sit-end-in-Some : goal.slice_bounds-sit-end-in-Some
slice_bounds-sit-end-in-Some g c =
    let a = c.args in
    text-count a.input.now _ c.find_mark.ensures _ c.in-Some.is

pub sit-requires-in-Some : goal.sit-requires-in-Some
sit-requires-in-Some g c =
    let few = c.if-input-gt-INPUT_LIMIT.false in
    rw c.tail.ensures (simp length-drop (omega (arith, few)))

pub overflow_add-p : goal.overflow_add-p
overflow_add-p g c =
    let a = c.args in
    let z = text-within a.input.now _ c.find_mark.ensures _ c.in-Some.is in
    search rules
