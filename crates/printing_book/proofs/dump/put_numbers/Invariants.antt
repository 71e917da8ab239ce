-- The loop's invariant: the numbers before the next one stand. Assumes nothing.
use lib.ListN.{length}
use Rattle.printing_book.proofs.Numbers.{Numbered}
use Rattle.printing_book.proofs.dump.put_numbers.Given as goal

abbrev pub invariant-loop-n : goal.invariant-loop-n
invariant-loop-n l = Numbered l.initial.out l.at l.l (length l.l) l.out l.end l.n-index
