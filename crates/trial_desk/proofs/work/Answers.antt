-- `work` meets its contract: a text that is refused ends it, and behind one that is opened the commands are run. Assumes nothing.
use mathlib.Core.Bool.{cond}
use Rattle.book.specs.Layout.{five}
use Rattle.book_opening.specs.Opening.{as_list, as_script}
use Rattle.rounds.proofs.Beginnings.{reached_first, refused_left, run_left}
use Rattle.trial_desk.proofs.Choices.{chosen_opens, opens-there}
use Rattle.trial_desk.proofs.Stopping.{at_err, at_ok, refused_stops, run_stops}
use Rattle.trial_desk.proofs.work.Goals as goal

pub returns-then-opened-ne0 : goal.returns-then-opened-ne0
returns-then-opened-ne0 g c =
    let a = c.args in
    let w = c.open-opened in
    let b = five a.nodes.now a.names.now a.lines.now a.pool.now a.journal.now in
    let o = opens-there _ (cond a.export as_list as_script) c.how_of-how.ensures b a.text.now w.result _ w.ensures in
    record {
      ok = at_ok c.refuse.result
          (refused_left (cond a.export as_list as_script) b a.text.now a.commands.now w.result o.0 _ o.1 c.if-opened-ne0.true);
      err = at_err c.refuse.result
          (refused_stops (cond a.export as_list as_script) b a.text.now a.commands.now w.result o.0 _ o.1 c.if-opened-ne0.true);
    }

pub run_commands-requires : goal.run_commands-requires
run_commands-requires g c =
    let a = c.args in
    let w = c.open-opened in
    let b = five a.nodes.now a.names.now a.lines.now a.pool.now a.journal.now in
    let o = opens-there _ (cond a.export as_list as_script) c.how_of-how.ensures b a.text.now w.result _ w.ensures in (
      reached_first (cond a.export as_list as_script) b a.text.now a.commands.now
          w.result o.0 _ o.1 c.if-opened-ne0.false (chosen_opens a.export) c.requires.0,
      c.requires.1,
    )

pub returns-in_err-run_commands-clause-err : goal.returns-in_err-run_commands-clause-err
returns-in_err-run_commands-clause-err g c =
    let a = c.args in
    let w = c.open-opened in
    let b = five a.nodes.now a.names.now a.lines.now a.pool.now a.journal.now in
    let o = opens-there _ (cond a.export as_list as_script) c.how_of-how.ensures b a.text.now w.result _ w.ensures in
    at_err c.from_residual.result
    (run_stops (cond a.export as_list as_script) b a.text.now a.commands.now w.result o.0 _ o.1 c.if-opened-ne0.false _ c.in_err-run_commands.ensures.err)

pub returns-clause-ok : goal.returns-clause-ok
returns-clause-ok g c =
    let a = c.args in
    let w = c.open-opened in
    let b = five a.nodes.now a.names.now a.lines.now a.pool.now a.journal.now in
    let o = opens-there _ (cond a.export as_list as_script) c.how_of-how.ensures b a.text.now w.result _ w.ensures in
    run_left (cond a.export as_list as_script) b a.text.now a.commands.now
    w.result o.0 _ o.1 c.if-opened-ne0.false c.in_ok-run_commands.field-0 _ c.in_ok-run_commands.ensures.ok
