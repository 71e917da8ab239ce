-- `run_commands` meets its contract: each turn runs a line and goes behind it. Assumes nothing.
use Prim.Native.Nat.{◌≤◌}
use native.Mathlib.Omega.{arith}
use Rattle.std.proofs.lemmas.Result.{err_from_is_err_and}
use lib.ListN.{length, length-drop, length-take}
use Rattle.rounds.proofs.Turns.{turns_begin, turns_end, turns_on}
use Rattle.trial_desk.proofs.Stopping.{runs_begin, runs_on, runs_stop}
use Rattle.trial_desk.proofs.run_commands.Goals as goal

pub loop-at-init : goal.loop-at-init
loop-at-init g c = record { turns = turns_begin _ _ c.args.commands.now c.requires.0; runs = runs_begin _ _ _ }

pub run_command-requires : goal.run_command-requires
run_command-requires g c = (c.loop-at.invariant.turns.reached, simp (length-take, length-drop) (omega (arith, c.requires.1)))

pub returns-in_err-c-clause-err : goal.returns-in_err-c-clause-err
returns-in_err-c-clause-err g c =
    let p = err_from_is_err_and c.from_residual.result c.from_residual.ensures.1 in
    rw p.1 (runs_stop _ _ _ c.loop-at.invariant.runs c.loop-at-test.true c.line_end-end.result c.line_end-end.ensures.end _ c.in_err-c.ensures.err)

pub loop-at-preserved : goal.loop-at-preserved
loop-at-preserved g c =
    let v = c.loop-at.invariant in
    record {
      turns = turns_on _ _ _ _ _ v.turns c.loop-at-test.true c.line_end-end.result c.line_end-end.ensures.end _ c.in_ok-c.ensures.ok;
      runs = runs_on _ _ _ v.runs c.loop-at-test.true c.line_end-end.result c.line_end-end.ensures.end _ c.in_ok-c.ensures.ok;
    }

pub returns-clause-ok : goal.returns-clause-ok
returns-clause-ok g c = turns_end _ _ _ _ _ c.loop-at.invariant.turns c.loop-at-test.false
