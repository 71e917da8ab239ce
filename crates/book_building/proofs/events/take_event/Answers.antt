-- `take_event` meets its contract, event by event. Assumes nothing.
use native.Mathlib.Omega.{arith}
use Rattle.book_building.proofs.TakenEvents.{line-asks, node-asks, parent-asks, took_body, took_closed, took_extern, took_line, took_node, took_parent, took_section}
use Rattle.book_building.proofs.events.take_event.Goals as goal

pub node_begins-requires : goal.node_begins-requires
node_begins-requires c =
    let a = c.args in
    node-asks a.s.now a.g a.nodes.now a.names.now a.lines.now a.pool.now c.requires.0 a.e _ _ c.requires.1 c.requires.2
    c.in-Node.is

-- sections and languages go up to 1 alike, so that this asks nothing of their order
pub line_stands-requires : goal.line_stands-requires
line_stands-requires c =
    let a = c.args in
    let h = line-asks a.s.now a.g a.nodes.now a.names.now a.lines.now a.pool.now c.requires.0 a.e _ _ _ _ c.requires.1 c.requires.2
    c.in-Line.is in
    (h.0, h.1, h.2, h.3, omega (arith, h.4, h.5), omega (arith, h.4, h.5), h.6)

pub node_ends-requires : goal.node_ends-requires
node_ends-requires c =
    let a = c.args in
    parent-asks a.s.now a.g a.nodes.now a.names.now a.lines.now a.pool.now c.requires.0 a.e _ _ c.requires.2
    c.in-Parent.is

pub returns-in-Node : goal.returns-in-Node
returns-in-Node c =
    let a = c.args in
    took_node a.s.now a.g a.nodes.now a.names.now a.lines.now a.pool.now c.requires.0 a.e c.in-Node.start
    c.in-Node.len c.node_begins.result c.node_begins.new.nodes c.node_begins.new.names c.in-Node.is
    c.node_begins.ensures

pub returns-in-Body : goal.returns-in-Body
returns-in-Body c =
    let a = c.args in
    took_body a.s.now a.g a.nodes.now a.names.now a.lines.now a.pool.now c.requires.0 a.e c.in-Body.is

pub returns-in-Section : goal.returns-in-Section
returns-in-Section c =
    let a = c.args in
    took_section a.s.now a.g a.nodes.now a.names.now a.lines.now a.pool.now c.requires.0 a.e _ c.in-Section.is

pub returns-in-Extern : goal.returns-in-Extern
returns-in-Extern c =
    let a = c.args in
    took_extern a.s.now a.g a.nodes.now a.names.now a.lines.now a.pool.now c.requires.0 a.e _ _ _
    c.in-Extern.is c.take_extern.ensures

pub returns-in-Closed : goal.returns-in-Closed
returns-in-Closed c =
    let a = c.args in
    took_closed a.s.now a.g a.nodes.now a.names.now a.lines.now a.pool.now c.requires.0 a.e _
    c.in-Closed.is c.take_closed.ensures

pub returns-in-Line : goal.returns-in-Line
returns-in-Line c =
    let a = c.args in
    took_line a.s.now a.g a.nodes.now a.names.now a.lines.now a.pool.now c.requires.0 a.e c.in-Line.section
    c.in-Line.language c.in-Line.start c.in-Line.len c.line_stands.result
    c.line_stands.new.lines c.line_stands.new.pool c.in-Line.is c.line_stands.ensures

pub returns-in-Parent : goal.returns-in-Parent
returns-in-Parent c =
    let a = c.args in
    took_parent a.s.now a.g a.nodes.now a.names.now a.lines.now a.pool.now c.requires.0 a.e c.in-Parent.start
    c.in-Parent.len c.node_ends.result c.node_ends.new.nodes c.in-Parent.is c.node_ends.ensures
