-- `pack_standing` meets its contract. The loop's invariant: the first i lines are read, and those of them that stand are packed. Assumes nothing.
use Prim.Native.Nat.{◌+◌, ◌*◌, ◌≤◌}
use native.Mathlib.Omega.{arith}
use lib.ListN.{get_or}
use Rattle.book.specs.Layout.{line_width}
use Rattle.trial_settle.proofs.Sifting.{sift_starts, sift_fits, sift_skips, sift_keeps, sift_ends}
use Rattle.trial_settle.proofs.settling.pack_standing.Goals as goal

pub loop-i-init : goal.loop-i-init
loop-i-init c = search sift_starts

pub overflow_cast-size : goal.overflow_cast-size
overflow_cast-size c =
    let turn : let t = c.loop-i in t.read + get_or t.lines (line_width * t.i + 3) 0 ≤ t.invariant.asked.total = sift_fits c.loop-i.invariant c.loop-i-test.true in
    omega (arith, turn)

pub overflow_add-read : goal.overflow_add-read
overflow_add-read c =
    let turn : let t = c.loop-i in t.read + get_or t.lines (line_width * t.i + 3) 0 ≤ t.invariant.asked.total = sift_fits c.loop-i.invariant c.loop-i-test.true in
    omega (arith, turn)

pub loop-i-preserved-then-is_struck : goal.loop-i-preserved-then-is_struck
loop-i-preserved-then-is_struck c = sift_skips c.loop-i.invariant c.loop-i-test.true c.is_struck.ensures c.if-is_struck.true

pub overflow_cast-size-in-loop-i : goal.overflow_cast-size-in-loop-i
overflow_cast-size-in-loop-i c =
    let turn : let t = c.loop-i in t.read + get_or t.lines (line_width * t.i + 3) 0 ≤ t.invariant.asked.total = sift_fits c.loop-i.invariant c.loop-i-test.true in
    omega (arith, turn)

pub move_down-requires : goal.move_down-requires
move_down-requires c =
    let turn : let t = c.loop-i in t.read + get_or t.lines (line_width * t.i + 3) 0 ≤ t.invariant.asked.total = sift_fits c.loop-i.invariant c.loop-i-test.true in
    omega (arith, turn)

pub overflow_add-written : goal.overflow_add-written
overflow_add-written c =
    let turn : let t = c.loop-i in t.read + get_or t.lines (line_width * t.i + 3) 0 ≤ t.invariant.asked.total = sift_fits c.loop-i.invariant c.loop-i-test.true in
    omega (arith, turn)

pub loop-i-preserved : goal.loop-i-preserved
loop-i-preserved c =
    sift_keeps c.loop-i.invariant c.loop-i-test.true c.is_struck.ensures c.if-is_struck.false c.put_line.ensures
    c.move_down.ensures

pub returns : goal.returns
returns c = sift_ends c.loop-i.invariant c.loop-i-test.false c.clear_numbers.ensures c.clear_bytes.ensures
