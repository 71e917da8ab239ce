-- `journal_fits_with` meets its contract. The loop's invariant: the t edits that are left, from the lines as they are now, decide. Assumes nothing.
use Prim.Native.Nat.{◌+◌, ◌-◌, ◌*◌}
use mathlib.Core.Path.{refl}
use native.Mathlib.Omega.{arith}
use lib.ListN.{length-set}
use Rattle.book_check.proofs.JournalChecks.{backward_starts, backward_ends, edit_out, add_early, add-struck, add-taken, strike_stood, strike-taken}
use mathlib.Core.Path.{ap}
use mathlib.Core.Bool.{not}
use Rattle.book_check.proofs.journal.journal_fits_with.Goals as goal

pub loop-s-init : goal.loop-s-init
loop-s-init c = (refl, search backward_starts)

pub overflow_cast-i : goal.overflow_cast-i
overflow_cast-i c = omega (arith, c.shared_slice_known-in-loop-s-2-1.given (2 * (c.loop-s.s - 1) + 1))

pub returns-then-m-i : goal.returns-then-m-i
returns-then-m-i c = search edit_out

pub returns-then-m-i-2 : goal.returns-then-m-i-2
returns-then-m-i-2 c =
    add_early c.loop-s.invariant.1 c.loop-s-test.true c.if-m-i.false c.if-what-eq1.true
    (λ e. omega (arith, c.if-m-i-2.true))

pub returns-then-not-stands : goal.returns-then-not-stands
returns-then-not-stands c = search add-struck

pub loop-s-preserved-then-what-eq1 : goal.loop-s-preserved-then-what-eq1
loop-s-preserved-then-what-eq1 c = (
  c.loop-s.invariant.0,
  add-taken c.loop-s.invariant.1 c.loop-s-test.true c.if-m-i.false c.stands_now-stands.ensures
      c.if-what-eq1.true c.if-m-i-2.false (ap not c.if-not-stands.false),
)

pub returns-then-stands : goal.returns-then-stands
returns-then-stands c = search strike_stood

pub loop-s-preserved : goal.loop-s-preserved
loop-s-preserved c = (
  simp length-set c.loop-s.invariant.0,
  strike-taken c.loop-s.invariant.1 c.loop-s-test.true c.if-m-i.false c.stands_now-stands.ensures
      c.if-what-eq1.false c.if-stands.false,
)

pub returns : goal.returns
returns c = search backward_ends
