-- `put_member` meets its contract. Assumes nothing.
use native.Mathlib.Omega.{arith}
use Rattle.printing.proofs.Pieces.{few-refused}
use Rattle.desk.proofs.AskExits.{refused-put, within-put}
use Rattle.desk.proofs.asking.put_member.Goals as goal

pub put_text-requires : goal.put_text-requires
put_text-requires c = omega (arith, few-refused c.number.result)

pub returns-in-Ok : goal.returns-in-Ok
returns-in-Ok c =
    let a = c.args in
    within-put a.out.now a.name.now a.m c.requires c.put_text-a.ensures c.put_text-b.ensures
    c.in-Ok.is c.put_within.ensures

pub returns-in-Err : goal.returns-in-Err
returns-in-Err c =
    let a = c.args in
    refused-put a.out.now a.name.now a.m c.requires c.put_text-a.ensures c.put_text-b.ensures
    c.in-Err.is (rw c.number.ensures at c.put_refused_fields-end.ensures) c.put_text.ensures
