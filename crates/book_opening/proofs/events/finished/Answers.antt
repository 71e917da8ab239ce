-- `finished` meets its contract. Assumes nothing.
use Rattle.book_opening.proofs.States.{finished-counts}
use Rattle.book_opening.proofs.events.finished.Goals as goal

pub returns : goal.returns
returns c =
    λ n m l q e.
    let a = c.args in
    finished-counts a.place a.g n m l q e _ (rw c.kind_of.ensures)
