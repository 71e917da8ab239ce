-- `of_many` meets its contract: it goes by the first byte as `starts` does. Assumes nothing.
use Rattle.utf8.specs.Utf8.{starts}
use Rattle.utf8.proofs.Exits.{ways}
use Rattle.utf8.proofs.of_many.Goals as goal
use Rattle.utf8.proofs.of_many.Goals.{in_default-via-then-a-lt194, in_default-via-else-a-lt194+else-a-lt224+else-a-lt240+else-a-lt245}

pub returns-in-194-to-223 : goal.returns-in-194-to-223
unfolding starts
returns-in-194-to-223 c = search ways depth 7

pub returns-in-224-to-239 : goal.returns-in-224-to-239
unfolding starts
returns-in-224-to-239 c = search ways depth 7

pub returns-in-240-to-244 : goal.returns-in-240-to-244
unfolding starts
returns-in-240-to-244 c = search ways depth 7

pub returns-in_default : goal.returns-in_default
unfolding starts
returns-in_default c =
    elim c.in_default.branch [
      | in_default-via-then-a-lt194 w ↦ search ways depth 7
      | in_default-via-else-a-lt194+else-a-lt224+else-a-lt240+else-a-lt245 w ↦ search ways depth 7
    ]
