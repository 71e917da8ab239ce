-- `first_named` meets its contract. The loop's invariant: the search goes on from node i. Assumes nothing.
use Rattle.book.proofs.NodeRows.{search_starts, search_lies, search_found, search_more, search_ends}
use Rattle.book.proofs.nodes.first_named.Goals as goal

pub loop-i-init : goal.loop-i-init
loop-i-init c = search search_starts

pub node_name-requires : goal.node_name-requires
node_name-requires c = search search_lies

pub returns-then-same_bytes : goal.returns-then-same_bytes
returns-then-same_bytes c = search search_found

pub loop-i-preserved : goal.loop-i-preserved
loop-i-preserved c = search search_more

pub returns : goal.returns
returns c = search search_ends
