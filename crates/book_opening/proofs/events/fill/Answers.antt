-- `fill` meets its contract: refused at once, or what `build` leaves. Assumes nothing.
use Prim.Native.Nat.{◌≤◌}
use native.Mathlib.Omega.{arith}
use lib.ListN.{length}
use borrow.Author.Rules.{rules}
use Rattle.book.specs.Layout.{node_width}
use Rattle.book_opening.proofs.Opens.{fill_done, fill-long, fill-refused, fill_roomless, filled_on}
use Rattle.book_opening.proofs.events.fill.Goals as goal

pub returns-then-s-gt-SCRIPT_LIMIT : goal.returns-then-s-gt-SCRIPT_LIMIT
returns-then-s-gt-SCRIPT_LIMIT c =
    let a = c.args in
    fill-long a.how a.s.now a.nodes.now a.names.now a.lines.now a.pool.now c.refused.result c.requires
    (omega (arith, c.if-s-gt-SCRIPT_LIMIT.true)) c.refused.ensures

pub returns-then-nodes-lt-NODE_WIDTH : goal.returns-then-nodes-lt-NODE_WIDTH
returns-then-nodes-lt-NODE_WIDTH c =
    let a = c.args in
    fill_roomless a.how a.s.now a.nodes.now a.names.now a.lines.now a.pool.now c.refused-then-nodes-lt-NODE_WIDTH.result c.requires
    (omega (arith, c.if-s-gt-SCRIPT_LIMIT.false)) (omega (arith, c.if-nodes-lt-NODE_WIDTH.true)) c.refused-then-nodes-lt-NODE_WIDTH.ensures

pub returns-in-Done : goal.returns-in-Done
returns-in-Done c =
    let room : node_width ≤ length c.args.nodes.now = omega (arith, c.if-nodes-lt-NODE_WIDTH.false) in
    let a = c.args in
    filled_on a.how a.s.now a.nodes.now a.names.now a.lines.now a.pool.now _ _
    (omega (arith, c.if-s-gt-SCRIPT_LIMIT.false)) room
    (fill_done _ c.build.result a.nodes.now a.names.now a.lines.now a.pool.now
    c.build.new.nodes c.build.new.names c.build.new.lines c.build.new.pool c.build.ensures _
    c.in-Done.is)

pub returns-in-Refused : goal.returns-in-Refused
returns-in-Refused c =
    let room : node_width ≤ length c.args.nodes.now = omega (arith, c.if-nodes-lt-NODE_WIDTH.false) in
    let a = c.args in
    filled_on a.how a.s.now a.nodes.now a.names.now a.lines.now a.pool.now _ _
    (omega (arith, c.if-s-gt-SCRIPT_LIMIT.false)) room
    (fill-refused _ c.build.result a.nodes.now a.names.now a.lines.now a.pool.now
    c.build.new.nodes c.build.new.names c.build.new.lines c.build.new.pool c.build.ensures _ _
    c.refused-in-Refused.result
    c.clear_book.new.nodes c.clear_book.new.names c.clear_book.new.lines c.clear_book.new.pool
    c.in-Refused.is c.refused-in-Refused.ensures c.clear_book.ensures
    (search rules) (search rules) (search rules) (search rules))
