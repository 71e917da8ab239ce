-- `stands_now` meets its contract. Assumes nothing.
use native.Mathlib.Omega.{arith}
use Rattle.book_check.proofs.JournalChecks.{stands-marked, stands-code}
use Rattle.book_check.proofs.journal.stands_now.Goals as goal

pub returns-then-back-i-ne0 : goal.returns-then-back-i-ne0
returns-then-back-i-ne0 c = let a = c.args in stands-marked a.lines.now a.back.now a.i (λ e. omega (arith, c.if-back-i-ne0.true))

pub returns : goal.returns
returns c =
    let a = c.args in
    stands-code a.lines.now a.back.now a.i (omega (arith, c.if-back-i-ne0.false)) _ c.is_struck.ensures
