-- `render_listing` meets its contract. Assumes nothing.
use native.Mathlib.Omega.{arith}
use Rattle.book.specs.Layout.{five}
use Rattle.printing_listing.proofs.Inputs.{line_room, lines-room, not_listed, script-count, script-within, symbols-within, too_long-listed, whole-listed}
use mathlib.Core.Path.{ap}
use mathlib.Core.Bool.{not}
use Rattle.printing_listing.proofs.render_listing.Goals as goal

pub returns-then-not-has_room : goal.returns-then-not-has_room
returns-then-not-has_room c =
    let a = c.args in
    let r = c.nothing_listed in
    not_listed (five a.nodes.now a.names.now a.lines.now a.pool.now a.journal.now) a.text.now a.out.now _ c.has_room.ensures
    r.result r.ensures (ap not c.if-not-has_room.true)

pub render_too_long-requires : goal.render_too_long-requires
render_too_long-requires c =
    let a = c.args in
    line_room (five a.nodes.now a.names.now a.lines.now a.pool.now a.journal.now) a.text.now a.out.now _ c.has_room.ensures (ap not c.if-not-has_room.false)

pub returns-then-text-gt-INPUT_LIMIT : goal.returns-then-text-gt-INPUT_LIMIT
returns-then-text-gt-INPUT_LIMIT c =
    let a = c.args in
    let r = c.render_too_long in
    too_long-listed (five a.nodes.now a.names.now a.lines.now a.pool.now a.journal.now) a.text.now a.out.now _ c.has_room.ensures
    (ap not c.if-not-has_room.false) c.if-text-gt-INPUT_LIMIT.true r.result r.new.out
    (five r.new.nodes r.new.names r.new.lines r.new.pool r.new.journal) r.ensures

pub symbols_start-from-requires : goal.symbols_start-from-requires
symbols_start-from-requires c = script-within c.args.text.now _ c.script_end-end.ensures

pub slice_bounds-render_script-end : goal.slice_bounds-render_script-end
slice_bounds-render_script-end c = script-count c.args.text.now _ c.script_end-end.ensures

pub slice_bounds-render_script-count : goal.slice_bounds-render_script-count
slice_bounds-render_script-count c = symbols-within c.args.text.now _ c.script_end-end.ensures _ c.symbols_start-from.ensures

pub slice_bounds-render_script-start : goal.slice_bounds-render_script-start
slice_bounds-render_script-start c = symbols-within c.args.text.now _ c.script_end-end.ensures _ c.symbols_start-from.ensures

pub render_script-requires : goal.render_script-requires
render_script-requires c =
    let a = c.args in (
      line_room (five a.nodes.now a.names.now a.lines.now a.pool.now a.journal.now) a.text.now a.out.now _ c.has_room.ensures (ap not c.if-not-has_room.false),
      lines-room (five a.nodes.now a.names.now a.lines.now a.pool.now a.journal.now) a.text.now a.out.now _ c.has_room.ensures (ap not c.if-not-has_room.false)
          _ c.script_end-end.ensures _ c.symbols_start-from.ensures,
    )

pub returns : goal.returns
returns c =
    let a = c.args in
    let r = c.render_script in
    whole-listed (five a.nodes.now a.names.now a.lines.now a.pool.now a.journal.now) a.text.now a.out.now _ c.has_room.ensures
    (ap not c.if-not-has_room.false) _ c.script_end-end.ensures _ c.symbols_start-from.ensures (omega (arith, c.if-text-gt-INPUT_LIMIT.false))
    r.result r.new.out
    (five r.new.nodes r.new.names r.new.lines r.new.pool r.new.journal) r.ensures
