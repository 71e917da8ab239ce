-- `is_book` meets its contract, by the laws of Holding. Assumes nothing.
use Rattle.book_check.proofs.Holding.{laid-fails, asks-laid, asks-nodes, asks-journal, names_fail, kind-fails, steps_decide}
use mathlib.Core.Path.{ap}
use mathlib.Core.Bool.{not}
use Rattle.book_check.proofs.is_book.Goals as goal

pub returns-then-not-is_laid : goal.returns-then-not-is_laid
returns-then-not-is_laid c = search laid-fails

pub nodes_good-requires : goal.nodes_good-requires
nodes_good-requires c = search asks-nodes

pub returns-then-not-nodes_good : goal.returns-then-not-nodes_good
returns-then-not-nodes_good c = search names_fail

pub is_kind_good-requires : goal.is_kind_good-requires
is_kind_good-requires c = search asks-laid

pub returns-then-not-is_kind_good : goal.returns-then-not-is_kind_good
returns-then-not-is_kind_good c = search kind-fails

pub journal_fits-requires : goal.journal_fits-requires
journal_fits-requires c = asks-journal _ _ _ _ _ _ _ c.is_laid.ensures (ap not c.if-not-is_laid.false)

pub returns : goal.returns
returns c = search steps_decide
