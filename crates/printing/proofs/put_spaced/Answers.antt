-- `put_spaced` meets its contract. Assumes nothing.
use Rattle.printing.proofs.Pieces.{spaced-put}
use Rattle.printing.proofs.put_spaced.Goals as goal

pub returns : goal.returns
returns c =
    let a = c.args in
    let p = c.put_text-a in
    let q = c.put_text-b in
    let s = c.put_number in
    spaced-put a.out.now a.n a.at a.word.now c.requires p.ensures q.ensures s.ensures
