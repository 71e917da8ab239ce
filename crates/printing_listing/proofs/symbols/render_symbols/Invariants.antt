-- `render_symbols` meets its contract. The loop's invariant: the answers to the lines before `at` stand, and the others are left. Assumes nothing.
use Prim.Native.Nat.{◌-◌}
use lib.ListN.{length}
use Rattle.book.specs.Lending.{view_of}
use Rattle.printing_listing.proofs.Answers.{Answered}
use Rattle.printing_listing.proofs.symbols.render_symbols.Given as goal

abbrev pub invariant-loop-at : goal.invariant-loop-at
invariant-loop-at l = Answered (view_of l.book.lent) l.symbols l.initial.out l.from l.out l.at l.end

abbrev pub decreases-loop-at : goal.decreases-loop-at
decreases-loop-at l = length l.symbols - l.at
