-- `is_quoted` meets its contract. Assumes nothing.
use mathlib.Core.Path.{◌∙◌}
use borrow.Author.Tests.{ne_eqb, lt-leb}
use Rattle.classes.proofs.Scanning.{quoted-short, quoted-opens, quoted-closes}
use Rattle.classes.proofs.is_quoted.Goals as goal

pub returns-then-token-eq34 : goal.returns-then-token-eq34
returns-then-token-eq34 c = quoted-closes _ c.if-token-ge2.true c.if-token-eq34.true

pub returns-else-token-eq34 : goal.returns-else-token-eq34
returns-else-token-eq34 c = ne_eqb _ 34 c.if-token-eq34.false ∙ quoted-opens _ c.if-token-ge2.true c.if-token-eq34.false

pub returns-else-token-ge2 : goal.returns-else-token-ge2
returns-else-token-ge2 c = lt-leb 2 _ c.if-token-ge2.false ∙ quoted-short _ c.if-token-ge2.false
