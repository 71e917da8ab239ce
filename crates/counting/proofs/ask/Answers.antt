-- `ask` meets its contract, by the laws of Nodes. Assumes nothing.
use Rattle.counting.proofs.Nodes.{ask-no_book, ask-export, ask_done}
use Rattle.counting.proofs.ask.Goals as goal

pub returns-then-not-is_book : goal.returns-then-not-is_book
returns-then-not-is_book c = search ask-no_book

pub returns-then-c-eq-EXPORT : goal.returns-then-c-eq-EXPORT
returns-then-c-eq-EXPORT c = search ask-export

pub returns : goal.returns
returns c = search ask_done
