-- `run_unknown` meets its contract. Assumes nothing.
use Rattle.desk.proofs.RanLines.{unknown-told}
use Rattle.desk.proofs.run_unknown.Goals as goal

pub returns : goal.returns
returns c =
    let a = c.args in
    unknown-told a.c a.out.now c.put_text-length.new.out c.put_text-length.result
    c.put_text-length.ensures
