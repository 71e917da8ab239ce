-- `is_laid` meets its contract, by the laws of Holding. Assumes nothing.
use Rattle.book_check.proofs.Holding.{limits_fail, nodes_fail, lines_fail, journal_decides}
use Rattle.book_check.proofs.is_laid.Goals as goal

pub returns-then-not-is_within_limits : goal.returns-then-not-is_within_limits
returns-then-not-is_within_limits c = search limits_fail

pub returns-then-not-nodes_packed : goal.returns-then-not-nodes_packed
returns-then-not-nodes_packed c = search nodes_fail

pub returns-then-not-lines_packed : goal.returns-then-not-lines_packed
returns-then-not-lines_packed c = search lines_fail

pub returns : goal.returns
returns c = search journal_decides
