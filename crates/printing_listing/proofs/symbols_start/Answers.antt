-- `symbols_start` meets its contract. Assumes nothing.
use Rattle.printing_listing.proofs.Inputs.{symbols_none, symbols_some}
use Rattle.printing_listing.proofs.symbols_start.Goals as goal

pub returns-then-text-end-le3 : goal.returns-then-text-end-le3
returns-then-text-end-le3 c = symbols_none c.args.end c.args.text c.if-text-end-le3.true

pub returns : goal.returns
returns c = symbols_some c.args.end c.args.text c.if-text-end-le3.false
