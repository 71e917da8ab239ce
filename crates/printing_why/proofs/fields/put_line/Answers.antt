-- `put_line` meets its contract. Assumes nothing.
use native.Mathlib.Omega.{arith}
use Prim.Native.Nat.{◌+◌}
use lib.ListN.{length}
use Rattle.printing_why.specs.WhyLine.{reason_told}
use Rattle.printing_why.proofs.Told.{answer-put, few-reason}
use Rattle.printing_why.proofs.fields.put_line.Goals as goal

pub put_text-requires : goal.put_text-requires
put_text-requires c =
    let a = c.args in
    omega (arith, few-reason a.text.now a.node.now a.r)

pub returns : goal.returns
returns c =
    let a = c.args in
    answer-put a.out.now a.name.now (reason_told a.text.now a.node.now a.r) (length a.node.now + 123)
    (few-reason a.text.now a.node.now a.r) (omega (arith, c.requires))
    c.put_text-a.ensures c.put_text-b.ensures c.put_reason-c.ensures c.put_text.ensures
