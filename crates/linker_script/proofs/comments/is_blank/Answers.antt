-- `is_blank` meets its contract. Assumes nothing.
use borrow.Author.Tests.{eq-eqb, ne_eqb}
use Rattle.linker_script.specs.Skip.{blank}
use Rattle.linker_script.proofs.comments.is_blank.Goals as goal

pub returns-then-b-eq32 : goal.returns-then-b-eq32
unfolding blank
returns-then-b-eq32 c = search eq-eqb

pub returns-then-b-eq9 : goal.returns-then-b-eq9
unfolding blank
returns-then-b-eq9 c = search (eq-eqb, ne_eqb)

pub returns-then-b-eq13 : goal.returns-then-b-eq13
unfolding blank
returns-then-b-eq13 c = search (eq-eqb, ne_eqb)

pub returns-else-b-eq13 : goal.returns-else-b-eq13
unfolding blank
returns-else-b-eq13 c = search ne_eqb
