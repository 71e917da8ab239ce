-- `put_symbol_line` meets its contract. Assumes nothing.
use native.Mathlib.Omega.{arith}
use Rattle.printing_symbols.proofs.Fields.{few-fields, symbol_line-put}
use Rattle.printing_symbols.proofs.symbols.put_symbol_line.Goals as goal

pub put_text-requires : goal.put_text-requires
put_text-requires c = omega (arith, few-fields c.args.v c.args.l)

pub returns : goal.returns
returns c =
    let a = c.args in
    let p = c.put_text-a in
    let q = c.put_text-b in
    let s = c.put_fields-c in
    let t = c.put_text in
    symbol_line-put a.out.now a.name.now a.v a.l c.requires p.ensures q.ensures s.ensures t.ensures
