-- `put_counts_line` meets its contract. Assumes nothing.
use native.Mathlib.Omega.{arith}
use Rattle.printing.proofs.Digits.{few-digits}
use Rattle.printing_symbols.proofs.Pieces.{counts_line-put}
use Rattle.printing_symbols.proofs.put_counts_line.Goals as goal

pub put_text-c-requires : goal.put_text-c-requires
put_text-c-requires c = omega (arith, few-digits c.args.n)

pub put_number-d-requires : goal.put_number-d-requires
put_number-d-requires c = omega (arith, few-digits c.args.n)

pub put_text-requires : goal.put_text-requires
put_text-requires c = omega (arith, few-digits c.args.n, few-digits c.args.p)

pub returns : goal.returns
returns c =
    let a = c.args in
    let p = c.put_text-a in
    let q = c.put_number-b in
    let s = c.put_text-c in
    let t = c.put_number-d in
    let u = c.put_text in
    counts_line-put a.out.now a.n a.p c.requires p.ensures q.ensures s.ensures t.ensures u.ensures
