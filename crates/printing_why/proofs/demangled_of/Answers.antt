-- `demangled_of` meets its contract. Assumes nothing.
use native.Mathlib.Omega.{arith}
use borrow.Author.Tests.{le-ltb, lt-ltb}
use lib.ListN.{length}
use Rattle.printing_why.proofs.demangled_of.Goals as goal

pub returns-then-n-line : goal.returns-then-n-line
returns-then-n-line c =
    let a = c.args in
    rw (lt-ltb a.n (length a.line.now) (omega (arith, c.if-n-line.true))) c.part_behind.ensures

pub returns : goal.returns
returns c =
    let a = c.args in
    rw (le-ltb a.n (length a.line.now) (omega (arith, c.if-n-line.false)))
