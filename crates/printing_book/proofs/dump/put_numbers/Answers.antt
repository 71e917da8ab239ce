-- `put_numbers` meets its contract. Assumes nothing.
use native.Mathlib.Omega.{arith}
use mathlib.Core.Path.{refl}
use Rattle.printing_book.proofs.Numbers.{number-room, numbers_all, numbers_more, numbers_start}
use Rattle.printing_book.proofs.dump.put_numbers.Goals as goal

pub loop-n-init : goal.loop-n-init
loop-n-init c = numbers_start

pub put_spaced-end-requires : goal.put_spaced-end-requires
put_spaced-end-requires c = number-room c.loop-n.invariant c.loop-n-test.true c.requires

pub loop-n-preserved : goal.loop-n-preserved
loop-n-preserved c =
    let inv = c.loop-n.invariant in
    let h = c.loop-n-test.true in
    numbers_more inv h (omega arith) (number-room inv h c.requires) c.put_spaced-end.ensures

pub returns : goal.returns
returns c = numbers_all c.loop-n.invariant refl (omega (arith, c.loop-n-test.false))
