-- `undo_add` meets its contract, by the laws of ClearedParts. Assumes nothing.
use Prim.Native.Nat.{◌+◌, ◌-◌, ◌*◌}
use mathlib.Core.Path.{◌≡◌, refl}
use borrow.Rule.Slice.PartMut.{put_mid}
use Rattle.book.specs.Layout.{line_width}
use Rattle.trial.specs.Clearing.{emptied}
use Rattle.trial.proofs.ClearedParts.{part-cleared, row-cleared}
use Rattle.trial_undo.specs.Latest.{row_back, start_of}
use Rattle.trial_undo.proofs.taking_back.undo_add.Goals as goal

pub returns : goal.returns
returns c =
    let emptied-bytes : let a = c.args in
    let from = start_of a.lines.now a.line in
    put_mid from (a.end - from) a.pool.now c.clear_bytes.new.bytes ≡ emptied a.pool.now from a.end = part-cleared _ _ _ _ c.requires.2 c.clear_bytes.ensures in
    let emptied-row : let a = c.args in
    let at = line_width * a.line in
    put_mid at (at + line_width - at) a.lines.now c.clear_numbers.new.rows ≡ row_back a.lines.now a.line = row-cleared _ line_width _ _ c.requires.0 c.clear_numbers.ensures in
    (refl, emptied-row, emptied-bytes)
