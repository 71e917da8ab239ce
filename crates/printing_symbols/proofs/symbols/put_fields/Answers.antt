-- `put_fields` meets its contract, case by case. Assumes nothing.
use native.Mathlib.Omega.{arith}
use Rattle.printing_symbols.proofs.Fields.{few-index, fields-told, locality-refused, version-refused}
use Rattle.printing_symbols.proofs.symbols.put_fields.Goals as goal

pub returns-in-Err : goal.returns-in-Err
returns-in-Err c =
    let a = c.args in
    version-refused a.out.now a.at a.l c.in-Err.is (rw c.number.ensures at c.put_refused_fields.ensures)

pub returns-in-Err-l : goal.returns-in-Err-l
returns-in-Err-l c =
    let a = c.args in
    locality-refused a.out.now a.at a.l c.in-Ok.is c.in-Err-l.is (rw c.number-in-Err-l.ensures at c.put_refused_fields-in-Err-l.ensures)

pub put_locality-requires : goal.put_locality-requires
put_locality-requires c = omega (arith, c.put_index-end.ensures.0, few-index c.in-Ok.v)

pub returns-in-Ok-l : goal.returns-in-Ok-l
returns-in-Ok-l c =
    let a = c.args in
    fields-told a.out.now a.at a.l c.in-Ok.is c.requires c.in-Ok-l.is c.put_index-end.ensures c.put_locality.ensures
