-- `nodes_packed` meets its contract, part by part. Assumes nothing.
use Rattle.book_check.proofs.NodeChecks.{names_lack, rows_lack, rest_bad, rows_decide}
use Rattle.book_check.proofs.nodes.nodes_packed.Goals as goal

pub returns-then-names-p : goal.returns-then-names-p
returns-then-names-p c = search names_lack

pub returns-then-nodes-n : goal.returns-then-nodes-n
returns-then-nodes-n c = search rows_lack

pub returns-then-not-zero_bytes : goal.returns-then-not-zero_bytes
returns-then-not-zero_bytes c = search rest_bad

pub returns : goal.returns
returns c = search rows_decide
