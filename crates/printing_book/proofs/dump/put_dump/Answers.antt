-- `put_dump` meets its contract. Assumes nothing.
use Prim.Native.Nat.{◌*◌}
use mathlib.Core.Path.{sym}
use native.Mathlib.Omega.{arith}
use lib.Seq.{length-take-le}
use Rattle.book.specs.Layout.{five}
use Rattle.printing_book.proofs.ShownDump.{Ready, dump_long, dump_put, journal-room, lines-room, nodes-room, readied}
use Rattle.printing_book.proofs.dump.put_dump.Goals as goal

pub slice_bounds-put_pair-end-2 : goal.slice_bounds-put_pair-end-2
slice_bounds-put_pair-end-2 c =
    let a = c.args in
    let k : Ready a.c (five a.nodes.now a.names.now a.lines.now a.pool.now a.journal.now) a.out.now = readied a.c (five a.nodes.now a.names.now a.lines.now a.pool.now a.journal.now) a.out.now c.requires.0 c.requires.1 c.type_inv.names c.type_inv.pool in
    sym (length-take-le (3 * a.c.nodes) a.nodes.now k.held.nodes)

pub slice_bounds-put_pair-end-4 : goal.slice_bounds-put_pair-end-4
slice_bounds-put_pair-end-4 c =
    let a = c.args in
    let k : Ready a.c (five a.nodes.now a.names.now a.lines.now a.pool.now a.journal.now) a.out.now = readied a.c (five a.nodes.now a.names.now a.lines.now a.pool.now a.journal.now) a.out.now c.requires.0 c.requires.1 c.type_inv.names c.type_inv.pool in
    sym (length-take-le (a.c.names) a.names.now k.held.names)

pub put_pair-a-requires : goal.put_pair-a-requires
put_pair-a-requires c =
    let a = c.args in
    let k : Ready a.c (five a.nodes.now a.names.now a.lines.now a.pool.now a.journal.now) a.out.now = readied a.c (five a.nodes.now a.names.now a.lines.now a.pool.now a.journal.now) a.out.now c.requires.0 c.requires.1 c.type_inv.names c.type_inv.pool in
    omega (arith, nodes-room k, sym (length-take-le (3 * a.c.nodes) a.nodes.now k.held.nodes), sym (length-take-le (a.c.names) a.names.now k.held.names))

pub slice_bounds-put_pair-end-6 : goal.slice_bounds-put_pair-end-6
slice_bounds-put_pair-end-6 c =
    let a = c.args in
    let k : Ready a.c (five a.nodes.now a.names.now a.lines.now a.pool.now a.journal.now) a.out.now = readied a.c (five a.nodes.now a.names.now a.lines.now a.pool.now a.journal.now) a.out.now c.requires.0 c.requires.1 c.type_inv.names c.type_inv.pool in
    sym (length-take-le (5 * a.c.lines) a.lines.now k.held.lines)

pub slice_bounds-put_pair-end-8 : goal.slice_bounds-put_pair-end-8
slice_bounds-put_pair-end-8 c =
    let a = c.args in
    let k : Ready a.c (five a.nodes.now a.names.now a.lines.now a.pool.now a.journal.now) a.out.now = readied a.c (five a.nodes.now a.names.now a.lines.now a.pool.now a.journal.now) a.out.now c.requires.0 c.requires.1 c.type_inv.names c.type_inv.pool in
    sym (length-take-le (a.c.pool) a.pool.now k.held.pool)

pub put_pair-b-requires : goal.put_pair-b-requires
put_pair-b-requires c =
    let a = c.args in
    let k : Ready a.c (five a.nodes.now a.names.now a.lines.now a.pool.now a.journal.now) a.out.now = readied a.c (five a.nodes.now a.names.now a.lines.now a.pool.now a.journal.now) a.out.now c.requires.0 c.requires.1 c.type_inv.names c.type_inv.pool in
    omega (arith, lines-room k c.put_pair-a.ensures, sym (length-take-le (5 * a.c.lines) a.lines.now k.held.lines), sym (length-take-le (a.c.pool) a.pool.now k.held.pool))

pub slice_bounds-edits-end : goal.slice_bounds-edits-end
slice_bounds-edits-end c =
    let a = c.args in
    let k : Ready a.c (five a.nodes.now a.names.now a.lines.now a.pool.now a.journal.now) a.out.now = readied a.c (five a.nodes.now a.names.now a.lines.now a.pool.now a.journal.now) a.out.now c.requires.0 c.requires.1 c.type_inv.names c.type_inv.pool in
    sym (length-take-le (2 * a.c.edits) a.journal.now k.held.journal)

pub put_buffer-requires : goal.put_buffer-requires
put_buffer-requires c =
    let a = c.args in
    let k : Ready a.c (five a.nodes.now a.names.now a.lines.now a.pool.now a.journal.now) a.out.now = readied a.c (five a.nodes.now a.names.now a.lines.now a.pool.now a.journal.now) a.out.now c.requires.0 c.requires.1 c.type_inv.names c.type_inv.pool in
    omega (arith, journal-room k c.put_pair-a.ensures c.put_pair-b.ensures, sym (length-take-le (2 * a.c.edits) a.journal.now k.held.journal))

pub shape_of-out : goal.shape_of-out
shape_of-out c =
    let a = c.args in
    let k : Ready a.c (five a.nodes.now a.names.now a.lines.now a.pool.now a.journal.now) a.out.now = readied a.c (five a.nodes.now a.names.now a.lines.now a.pool.now a.journal.now) a.out.now c.requires.0 c.requires.1 c.type_inv.names c.type_inv.pool in
    dump_long k c.put_pair-a.ensures c.put_pair-b.ensures c.put_buffer.ensures

pub returns : goal.returns
returns c =
    let a = c.args in
    let k : Ready a.c (five a.nodes.now a.names.now a.lines.now a.pool.now a.journal.now) a.out.now = readied a.c (five a.nodes.now a.names.now a.lines.now a.pool.now a.journal.now) a.out.now c.requires.0 c.requires.1 c.type_inv.names c.type_inv.pool in
    dump_put k c.put_pair-a.ensures c.put_pair-b.ensures c.put_buffer.ensures
