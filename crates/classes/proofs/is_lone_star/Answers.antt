-- `is_lone_star` meets its contract. Assumes nothing.
use mathlib.Core.Path.{◌∙◌}
use borrow.Author.Tests.{ne_eqb}
use Rattle.classes.proofs.Scanning.{lone_star-one, lone_star_not}
use Rattle.classes.proofs.is_lone_star.Goals as goal

pub returns-then-token-eq1 : goal.returns-then-token-eq1
returns-then-token-eq1 c = lone_star-one _ c.if-token-eq1.true

pub returns-else-token-eq1 : goal.returns-else-token-eq1
returns-else-token-eq1 c = ne_eqb _ 1 c.if-token-eq1.false ∙ lone_star_not _ c.if-token-eq1.false
