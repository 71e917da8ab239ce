-- `clear_added` meets its contract: three parts are cleared. Assumes nothing.
use Prim.Native.Nat.{◌-◌, ◌*◌}
use mathlib.Core.Path.{◌≡◌}
use borrow.Rule.Slice.PartMut.{put_mid}
use Rattle.book.specs.Layout.{edit_width, line_width}
use Rattle.trial.specs.Clearing.{emptied}
use Rattle.trial.proofs.ClearedParts.{part-cleared}
use Rattle.trial_symbols.proofs.lines.clear_added.Goals as goal

pub returns : goal.returns
returns c =
    let emptied-rows : let a = c.args in
    let from = line_width * a.c.lines in
    let to = line_width * a.k.lines in
    put_mid from (to - from) a.lines.now c.clear_numbers.new.rows ≡ emptied a.lines.now from to = part-cleared _ _ _ _ c.requires.1 c.clear_numbers.ensures in
    let emptied-bytes : let a = c.args in
    put_mid a.c.pool (a.k.pool - a.c.pool) a.pool.now c.clear_bytes.new.bytes ≡ emptied a.pool.now a.c.pool a.k.pool = part-cleared _ _ _ _ c.requires.3 c.clear_bytes.ensures in
    let emptied-edits : let a = c.args in
    let from = edit_width * a.c.edits in
    let to = edit_width * a.k.edits in
    put_mid from (to - from) a.journal.now c.clear_numbers-2.new.rows ≡ emptied a.journal.now from to = part-cleared _ _ _ _ c.requires.5 c.clear_numbers-2.ensures in
    (emptied-rows, emptied-bytes, emptied-edits)
