-- `run_command` meets its contract: the line has room, and so it is run. Assumes nothing.
use Prim.Native.Nat.{◌≤◌}
use mathlib.Core.Path.{ap}
use native.Mathlib.Omega.{arith}
use lib.ListN.{length}
use Rattle.std.proofs.lemmas.Result.{err_from_is_err_and}
use Rattle.book.specs.Layout.{five}
use Rattle.histories.specs.Histories.{Lent}
use Rattle.rounds.specs.Rounds.{printing_room}
use Rattle.rounds.proofs.Turns.{line_prints, line_runs}
use Rattle.trial_desk.proofs.run_command.Goals as goal

pub returns-in_err-tell : goal.returns-in_err-tell
returns-in_err-tell g c =
    let a = c.args in
    let w = c.run_line-ran in
    let room : printing_room ≤ length a.out.now = omega arith in
    let b = five a.nodes.now a.names.now a.lines.now a.pool.now a.journal.now in
    let p = err_from_is_err_and c.from_residual.result c.from_residual.ensures.1 in
    let q = line_runs a.text.now a.c b a.line.now a.out.now c.requires.0 c.requires.1 room w.result w.ensures.0 _ w.ensures.2 in
    record {
      ok = rw p.1 tt;
      err = rw p.1 (ap (λ (y : Lent). y.buffers) q);
      printed = line_prints a.text.now a.c b a.line.now a.out.now c.requires.0 c.requires.1 room _ w.ensures.1;
    }

pub returns : goal.returns
returns g c =
    let a = c.args in
    let w = c.run_line-ran in
    let room : printing_room ≤ length a.out.now = omega arith in
    let b = five a.nodes.now a.names.now a.lines.now a.pool.now a.journal.now in
    record {
      ok = line_runs a.text.now a.c b a.line.now a.out.now c.requires.0 c.requires.1 room w.result w.ensures.0 _ w.ensures.2;
      err = tt;
      printed = line_prints a.text.now a.c b a.line.now a.out.now c.requires.0 c.requires.1 room _ w.ensures.1;
    }
