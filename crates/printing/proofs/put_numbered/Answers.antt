-- `put_numbered` meets its contract. Assumes nothing.
use Prim.Native.Nat.{◌+◌, ◌≤◌}
use native.Mathlib.Omega.{arith}
use lib.ListN.{length}
use Rattle.printing.proofs.Pieces.{numbered-put, spaced-ends}
use Rattle.printing.proofs.put_numbered.Goals as goal

pub put_text-requires : goal.put_text-requires
put_text-requires c =
    let few : c.put_spaced-end.result ≤ 0 + length c.args.word.now + 11 = search spaced-ends in
    omega arith

pub returns : goal.returns
returns c =
    let a = c.args in
    let p = c.put_spaced-end in
    let q = c.put_text in
    numbered-put a.out.now a.n a.word.now c.requires p.ensures q.ensures
