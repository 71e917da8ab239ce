-- `line_stands` meets its contract. Assumes nothing.
use Rattle.book_building.proofs.TakenEvents.{handed}
use Rattle.book_building.proofs.events.line_stands.Goals as goal

pub returns : goal.returns
returns c =
    let a = c.args in
    rw (handed a.s.now a.p a.n) at c.take_line.ensures
