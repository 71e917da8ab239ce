-- `node_version` meets its contract. Assumes nothing.
use mathlib.Core.Path.{ap, ◌∙◌}
use borrow.Author.Tests.{eq-eqb, ne_eqb}
use Rattle.std.specs.Prelude.{Some}
use Rattle.lookups.specs.Lookups.{index_of, node_version}
use Rattle.lookups.proofs.version_lookup.node_version.Goals as goal

pub returns-then-node-eq0 : goal.returns-then-node-eq0
unfolding node_version
returns-then-node-eq0 c = rw (eq-eqb _ _ c.if-node-eq0.true)

pub returns : goal.returns
unfolding node_version
returns c = rw (ne_eqb _ _ c.if-node-eq0.false) (ap Some (c.from_node.ensures ∙ ap index_of c.of_row.ensures))
