-- `run_edit` meets its contract. Assumes nothing.
use Rattle.book.specs.Layout.{five}
use Rattle.book.specs.View.{view}
use Rattle.desk.proofs.Answered.{edit_runs}
use Rattle.desk.specs.Edits.{edit_asked, edit_step, said}
use Rattle.desk.proofs.edits.run_edit.Goals as goal

pub returns : goal.returns
unfolding edit_step
returns c =
    let a = c.args in
    let b = five a.nodes.now a.names.now a.lines.now a.pool.now a.journal.now in
    edit_runs a.c b (five _ _ _ _ _) (said a.c a.e) (edit_asked b (view a.c b) a.line.now a.e) c.make_edit-r.result
    a.out.now _ _ c.make_edit-r.ensures c.say_edit.ensures
