-- `clear_all` meets its contract. Assumes nothing.
use Rattle.c_api.proofs.OpeningExits.{all_cleared}
use Rattle.c_api.proofs.lent_openings.clear_all.Goals as goal

pub returns : goal.returns
returns c =
    let a = c.args in
    all_cleared a.counts.now a.nodes.now a.names.now a.lines.now a.pool.now a.journal.now _ _ _ _ _ _
    c.clear_numbers.ensures c.clear_numbers-2.ensures c.clear_bytes.ensures
    c.clear_numbers-3.ensures c.clear_bytes-2.ensures c.clear_numbers-4.ensures
