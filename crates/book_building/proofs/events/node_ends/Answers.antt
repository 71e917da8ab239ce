-- `node_ends` meets its contract. Assumes nothing.
use Rattle.book_building.proofs.TakenEvents.{handed}
use Rattle.book_building.proofs.events.node_ends.Goals as goal

pub returns : goal.returns
returns c =
    let a = c.args in
    rw (handed a.s.now a.p a.n) at c.take_parent.ensures
