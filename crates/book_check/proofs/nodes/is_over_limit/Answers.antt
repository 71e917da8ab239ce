-- `is_over_limit` meets its contract, by the lengths of the names. Assumes nothing.
use Rattle.book_check.proofs.NodeChecks.{parent-longer, name-longer, both_long}
use Rattle.book_check.proofs.nodes.is_over_limit.Goals as goal

pub returns-then-parent-gt-SCRIPT_LIMIT : goal.returns-then-parent-gt-SCRIPT_LIMIT
returns-then-parent-gt-SCRIPT_LIMIT c = search parent-longer

pub returns-then-name-gt-SCRIPT_LIMIT : goal.returns-then-name-gt-SCRIPT_LIMIT
returns-then-name-gt-SCRIPT_LIMIT c = search name-longer

pub returns : goal.returns
returns c = search both_long
