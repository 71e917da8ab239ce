-- `with_byte` meets its contract. Assumes nothing.
use native.Mathlib.Omega.{arith}
use Rattle.classes.proofs.Scanning.{scanned-escape, is_nonstar, scanned_same}
use Rattle.classes.proofs.with_byte.Goals as goal

pub returns-in-92 : goal.returns-in-92
returns-in-92 c = search scanned-escape

pub returns-in-91 : goal.returns-in-91
returns-in-91 c = is_nonstar _ c.in-91.is _

pub returns-in_default : goal.returns-in_default
returns-in_default c = scanned_same _ _ (λ e. omega arith) (λ e. grind arith) (λ e. grind arith) (λ e. grind arith)
