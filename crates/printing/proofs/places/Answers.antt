-- `places` meets its contract. The loop's invariant: the digits of `rest` are left to count. Assumes nothing.
use borrow.Author.Rules.{rules}
use Rattle.printing.proofs.Digits.{count-ends, count_more, count_room, count-starts}
use Rattle.printing.proofs.places.Goals as goal

pub loop-rest-init : goal.loop-rest-init
loop-rest-init c = search count-starts

pub overflow_add-k : goal.overflow_add-k
overflow_add-k c = search (rules, count_room)

pub loop-rest-preserved : goal.loop-rest-preserved
loop-rest-preserved c = search count_more

pub returns : goal.returns
returns c = search count-ends
