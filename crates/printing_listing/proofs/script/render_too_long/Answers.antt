-- `render_too_long` meets its contract. Assumes nothing.
use Rattle.printing_listing.proofs.Scripts.{all_cleared}
use Rattle.printing_listing.proofs.script.render_too_long.Goals as goal

pub returns : goal.returns
returns c =
    let a = c.args in
    let p = c.render_listing_refused in (
      p.ensures.0,
      p.ensures.1,
      all_cleared a.nodes.now a.names.now a.lines.now a.pool.now a.journal.now _ _ _ _ _ c.clear_numbers.ensures
          c.clear_bytes.ensures c.clear_numbers-2.ensures c.clear_bytes-2.ensures c.clear_numbers-3.ensures,
    )
