-- `known_version` meets its contract. The loop's invariant: the nodes from i on have other names. Assumes nothing.
use Rattle.lookups.proofs.LastNamed.{back_starts, back_lies, back_found, back_more, back_ends}
use Rattle.lookups.proofs.wanted.known_version.Goals as goal

pub loop-i-init : goal.loop-i-init
loop-i-init c = search back_starts

pub node_name-requires : goal.node_name-requires
node_name-requires c = search back_lies

pub returns-then-same_bytes : goal.returns-then-same_bytes
returns-then-same_bytes c = search back_found

pub loop-i-preserved : goal.loop-i-preserved
loop-i-preserved c = search back_more

pub returns : goal.returns
returns c = search back_ends
