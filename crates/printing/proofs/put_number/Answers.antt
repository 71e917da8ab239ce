-- `put_number` meets its contract. The loop's invariant: the digits behind i stand, and those of `rest` are left to be written. Assumes nothing.
use Prim.Native.Nat.{◌≤◌}
use mathlib.Core.Path.{refl}
use borrow.Author.Rules.{rules}
use native.Mathlib.Omega.{arith}
use Rattle.printing.proofs.Digits.{few-places, fill-ends, fill_more, fill-starts, fill-within}
use Rattle.printing.proofs.put_number.Goals as goal

pub overflow_add-end : goal.overflow_add-end
overflow_add-end c = let few : c.places.result ≤ 10 = search few-places in omega arith

pub loop-i-init : goal.loop-i-init
loop-i-init c = fill-starts (search rules) c.places.ensures refl

pub bounds-out-i : goal.bounds-out-i
bounds-out-i c = search fill-within

pub loop-i-preserved : goal.loop-i-preserved
loop-i-preserved c = fill_more c.loop-i.invariant c.requires c.loop-i-test.true

pub returns : goal.returns
returns c = search (rules, fill-ends)
