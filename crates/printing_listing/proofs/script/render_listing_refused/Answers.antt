-- `render_listing_refused` meets its contract. Assumes nothing.
use Rattle.printing_listing.proofs.Scripts.{refused-listed}
use Rattle.printing_listing.proofs.script.render_listing_refused.Goals as goal

pub returns : goal.returns
returns c =
    let a = c.args in
    let p = c.put_refused_line-length in
    refused-listed a.no a.place a.out.now p.ensures
