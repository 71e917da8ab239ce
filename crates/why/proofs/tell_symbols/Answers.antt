-- `tell_symbols` meets its contract: each turn prints a line and goes behind it. Assumes nothing.
use Prim.Native.Nat.{◌≤◌}
use native.Mathlib.Omega.{arith}
use Rattle.std.proofs.lemmas.Result.{err_from_is_err_and}
use lib.ListN.{length, length-drop, length-take}
use Rattle.why.proofs.Turns.{puts_begin, puts_on, puts_stop, tells_begin, tells_end, tells_on}
use Rattle.why.proofs.tell_symbols.Goals as goal

pub loop-at-init : goal.loop-at-init
loop-at-init g c = record { tells = tells_begin _ _ _ _; puts = puts_begin _ _ _ _ }

pub tell_symbol-requires : goal.tell_symbol-requires
tell_symbol-requires g c = (c.requires.0, simp (length-take, length-drop) (omega (arith, c.requires.1)))

pub returns-in_err-printed-clause-err : goal.returns-in_err-printed-clause-err
returns-in_err-printed-clause-err g c =
    let p = err_from_is_err_and c.from_residual.result c.from_residual.ensures.1 in
    rw p.1 (puts_stop _ _ _ _ c.loop-at.invariant.puts c.loop-at-test.true c.line_end-end.result c.line_end-end.ensures.end _ c.in_err-printed.ensures.err)

pub loop-at-preserved : goal.loop-at-preserved
loop-at-preserved g c =
    let t = c.in_ok-printed.ensures.ok in
    record {
      tells = tells_on _ _ _ _ c.loop-at.invariant.tells c.loop-at-test.true c.line_end-end.result c.line_end-end.ensures.end
          c.in_ok-printed.field-0 _ t.0 t.1;
      puts = puts_on _ _ _ _ c.loop-at.invariant.puts c.loop-at-test.true c.line_end-end.result c.line_end-end.ensures.end _ t.0.1;
    }

pub returns-clause-ok : goal.returns-clause-ok
returns-clause-ok g c = tells_end _ _ _ _ c.loop-at.invariant.tells c.loop-at-test.false
