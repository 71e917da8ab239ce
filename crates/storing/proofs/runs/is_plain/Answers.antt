-- `is_plain` meets its contract. The loop's invariant: what is left from i on decides. Assumes nothing.
use Rattle.storing.proofs.Plain.{plain_none, plain_stops, plain_more, plain_all}
use Rattle.storing.proofs.runs.is_plain.Goals as goal

pub loop-c-init : goal.loop-c-init
loop-c-init c = search plain_none

pub returns-then-is_pair : goal.returns-then-is_pair
returns-then-is_pair c = search plain_stops

pub loop-c-preserved : goal.loop-c-preserved
loop-c-preserved c = search plain_more

pub returns : goal.returns
returns c = search plain_all
