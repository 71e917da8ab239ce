-- `say_edit` meets its contract. Assumes nothing.
use Rattle.desk.proofs.Answered.{done_finishes, refused_finishes}
use Rattle.desk.specs.Edits.{said}
use Rattle.desk.proofs.edits.say_edit.Goals as goal

pub returns-in-Err : goal.returns-in-Err
unfolding said
returns-in-Err c =
    let a = c.args in
    refused_finishes a.c (said a.c a.e) a.r a.out.now _ c.put_refused_answer.result _ _ c.in-Err.is
    c.put_refused_answer.ensures c.printed.ensures

pub returns-in-Ok : goal.returns-in-Ok
unfolding said
returns-in-Ok c =
    let a = c.args in
    done_finishes a.c (said a.c a.e) a.r a.out.now _ c.say_done.result _ _ c.in-Ok.is
    c.say_done.ensures c.printed-in-Ok.ensures
