-- Each turn of `tell_symbols` prints a line and goes behind it. Assumes nothing.
use Prim.Native.Nat.{◌-◌}
use lib.ListN.{length}
use Rattle.book.specs.Lending.{view_of}
use Rattle.why.proofs.Turns.{Putting, Telling}
use Rattle.why.proofs.tell_symbols.Given as goal

abbrev pub invariant-loop-at : goal.invariant-loop-at
invariant-loop-at g l = record {
  tells : Telling l.text (view_of l.book.lent) l.symbols l.initial.out l.printed l.at l.out;
  puts : Putting l.text (view_of l.book.lent) l.symbols l.initial.out l.at l.out;
}

abbrev pub decreases-loop-at : goal.decreases-loop-at
decreases-loop-at g l = length l.symbols - l.at
