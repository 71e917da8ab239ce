-- `render_script` meets its contract. Assumes nothing.
use Rattle.book.specs.Layout.{five}
use Rattle.printing_listing.proofs.Scripts.{script-held, script-listed}
use Rattle.printing_listing.proofs.script.render_script.Goals as goal

pub render_opened-length-requires : goal.render_opened-length-requires
render_opened-length-requires c =
    let a = c.args in
    let w = c.open-opened in (
      c.requires.0,
      c.requires.1,
      λ h. script-held (five a.nodes.now a.names.now a.lines.now a.pool.now a.journal.now) a.script.now w.result w.ensures.0 h
          (five w.new.nodes w.new.names w.new.lines w.new.pool w.new.journal) w.ensures.1,
    )

pub returns : goal.returns
returns c =
    let a = c.args in
    let w = c.open-opened in
    let p = c.render_opened-length in
    script-listed (five a.nodes.now a.names.now a.lines.now a.pool.now a.journal.now) a.script.now w.result w.ensures.0
    a.symbols.now a.out.now (five w.new.nodes w.new.names w.new.lines w.new.pool w.new.journal)
    w.ensures.1 p.ensures
