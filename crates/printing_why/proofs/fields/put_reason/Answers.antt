-- `put_reason` meets its contract. Assumes nothing.
use native.Mathlib.Omega.{arith}
use Rattle.printing_why.proofs.Told.{few_head, few-marks, few-name, reason-put}
use Rattle.printing_why.proofs.fields.put_reason.Goals as goal

pub put_name-b-requires : goal.put_name-b-requires
put_name-b-requires c = omega (arith, few_head c.args.r)

pub put_marks-c-requires : goal.put_marks-c-requires
put_marks-c-requires c =
    let a = c.args in
    omega (arith, few_head a.r, few-name a.node.now)

pub put_offset-requires : goal.put_offset-requires
put_offset-requires c =
    let a = c.args in
    omega (arith, few_head a.r, few-name a.node.now, few-marks a.r)

pub returns : goal.returns
returns c =
    reason-put c.args.out.now c.args.at c.args.text.now c.args.node.now c.args.r c.requires c.put_head-a.ensures
    c.put_name-b.ensures c.put_marks-c.ensures c.put_offset.ensures
