-- `settle_lines` meets its contract: nothing is changed where none is struck, or the lines that stand are packed. Assumes nothing.
use Rattle.book.specs.Layout.{five}
use Rattle.trial_settle.proofs.Settles.{journal-part, journal-room, lines-asked, lines-room, settle-done, settle_none}
use Rattle.trial_settle.proofs.settling.settle_lines.Goals as goal

pub none_struck-requires : goal.none_struck-requires
none_struck-requires c = search lines-room

pub returns-then-none_struck : goal.returns-then-none_struck
returns-then-none_struck c =
    settle_none c.args.c (let a = c.args in five a.nodes.now a.names.now a.lines.now a.pool.now a.journal.now) c.requires _ c.none_struck.ensures c.if-none_struck.true

pub pack_standing-left-requires : goal.pack_standing-left-requires
pack_standing-left-requires c = search lines-asked

pub slice_bounds-clear_numbers-end : goal.slice_bounds-clear_numbers-end
slice_bounds-clear_numbers-end c = search journal-room

pub slice_bounds-clear_numbers-end-2 : goal.slice_bounds-clear_numbers-end-2
slice_bounds-clear_numbers-end-2 c = search journal-part

pub returns : goal.returns
returns c =
    settle-done c.args.c (let a = c.args in five a.nodes.now a.names.now a.lines.now a.pool.now a.journal.now) c.requires _ c.pack_standing-left.result _ _ _ _ c.none_struck.ensures
    c.if-none_struck.false c.pack_standing-left.ensures c.clear_numbers.ensures c.counts_with.ensures
