-- `match_name` meets its contract: each need is a turn of proofs/Turns.antt. Assumes nothing.
use Rattle.matching.proofs.Turns.{held_start, held_end, held-takes, takes-fits, takes_less, held_last, held-star, star_less, fails-fits, held_none, held_back, back_less}
use Rattle.matching.proofs.match_name.Goals as goal

pub loop-i-init : goal.loop-i-init
loop-i-init c = search held_start

pub overflow_add-tests : goal.overflow_add-tests
overflow_add-tests c = record { fits = search takes-fits }

pub loop-i-smaller-in-Takes : goal.loop-i-smaller-in-Takes
loop-i-smaller-in-Takes c = search takes_less

pub loop-i-preserved-in-Takes : goal.loop-i-preserved-in-Takes
loop-i-preserved-in-Takes c = search held-takes

pub returns-then-p-next : goal.returns-then-p-next
returns-then-p-next c = search held_last

pub loop-i-smaller-in-Star : goal.loop-i-smaller-in-Star
loop-i-smaller-in-Star c = search star_less

pub loop-i-preserved-in-Star : goal.loop-i-preserved-in-Star
loop-i-preserved-in-Star c = search held-star

pub overflow_add-tests-in-Fails : goal.overflow_add-tests-in-Fails
overflow_add-tests-in-Fails c = record { fits = search fails-fits }

pub returns-in_default : goal.returns-in_default
returns-in_default c = search held_none

pub loop-i-smaller : goal.loop-i-smaller
loop-i-smaller c = search back_less

pub loop-i-preserved : goal.loop-i-preserved
loop-i-preserved c = search held_back

pub returns : goal.returns
returns c = search held_end
