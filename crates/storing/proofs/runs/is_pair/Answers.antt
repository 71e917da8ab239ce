-- `is_pair` meets its contract. Assumes nothing.
use native.Mathlib.Omega.{arith}
use borrow.Author.Tests.{ne_eqb}
use Rattle.storing.specs.Post.{pair}
use Rattle.storing.proofs.runs.is_pair.Goals as goal

pub returns-in-42 : goal.returns-in-42
unfolding pair
returns-in-42 c = rw c.in-42.is

pub returns-in-94 : goal.returns-in-94
unfolding pair
returns-in-94 c = rw c.in-94.is

pub returns-in_default : goal.returns-in_default
unfolding pair
returns-in_default c = rw (ne_eqb c.args.c 42 (λ e. grind arith), ne_eqb c.args.c 94 (λ e. grind arith))
