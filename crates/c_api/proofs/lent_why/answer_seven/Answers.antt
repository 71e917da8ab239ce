-- `answer_seven` meets its contract. Assumes nothing.
use native.Mathlib.Omega.{arith}
use lib.ListN.{length-set}
use Rattle.c_api.proofs.Seven.{seven-given, seven-refused, seven_roomless}
use Rattle.c_api.proofs.lent_why.answer_seven.Goals as goal

pub returns-then-no-ne0 : goal.returns-then-no-ne0
returns-then-no-ne0 c = seven-refused _ _ _ _ c.if-no-ne0.true

pub returns-then-out-lt-SEVEN : goal.returns-then-out-lt-SEVEN
returns-then-out-lt-SEVEN c = seven_roomless _ _ _ _ c.if-no-ne0.false (omega (arith, c.if-out-lt-SEVEN.true))

pub bounds-out-1 : goal.bounds-out-1
bounds-out-1 c = simp length-set (omega arith)

pub bounds-out-2 : goal.bounds-out-2
bounds-out-2 c = simp length-set (omega arith)

pub bounds-out-3 : goal.bounds-out-3
bounds-out-3 c = simp length-set (omega arith)

pub bounds-out-4 : goal.bounds-out-4
bounds-out-4 c = simp length-set (omega arith)

pub bounds-out-5 : goal.bounds-out-5
bounds-out-5 c = simp length-set (omega arith)

pub bounds-out-6 : goal.bounds-out-6
bounds-out-6 c = simp length-set (omega arith)

pub returns : goal.returns
returns c = seven-given _ _ _ _ c.if-no-ne0.false (omega (arith, c.if-out-lt-SEVEN.false))
