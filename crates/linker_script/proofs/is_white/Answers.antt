-- `is_white` meets its contract. Assumes nothing.
use borrow.Author.Tests.{eq-eqb, ne_eqb}
use Rattle.linker_script.specs.Trim.{white}
use Rattle.linker_script.proofs.is_white.Goals as goal

pub returns-then-b-eq32 : goal.returns-then-b-eq32
unfolding white
returns-then-b-eq32 c = search eq-eqb

pub returns-then-b-eq9 : goal.returns-then-b-eq9
unfolding white
returns-then-b-eq9 c = search (eq-eqb, ne_eqb)

pub returns-then-b-eq10 : goal.returns-then-b-eq10
unfolding white
returns-then-b-eq10 c = search (eq-eqb, ne_eqb)

pub returns-then-b-eq12 : goal.returns-then-b-eq12
unfolding white
returns-then-b-eq12 c = search (eq-eqb, ne_eqb)

pub returns-else-b-eq12 : goal.returns-else-b-eq12
unfolding white
returns-else-b-eq12 c = search ne_eqb
