-- `write_events` meets its contract. The loop's invariant: the buffer's front holds the rows of the events passed. Assumes nothing.
use Rattle.reading_rows.proofs.Tabling.{tabled_start, tabled_more, end_told, end_rows, end_fits, refused-told, refused-rows, place-fits, refused-fits, room-told, room-rows, onward}
use Rattle.reading_rows.proofs.write_events.Goals as goal

pub loop-e-init : goal.loop-e-init
loop-e-init c = search tabled_start

pub overflow_mul-result : goal.overflow_mul-result
overflow_mul-result c = search end_fits

pub returns-in-Ok-None : goal.returns-in-Ok-None
returns-in-Ok-None c = (search end_told, search end_rows)

pub overflow_mul-result-in-Err : goal.overflow_mul-result-in-Err
overflow_mul-result-in-Err c = search place-fits

pub overflow_add-result : goal.overflow_add-result
overflow_add-result c = search refused-fits

pub returns-in-Err : goal.returns-in-Err
returns-in-Err c = (search refused-told, search refused-rows)

pub returns-then-rows-n-lt5 : goal.returns-then-rows-n-lt5
returns-then-rows-n-lt5 c = (search room-told, search room-rows)

pub loop-e-smaller : goal.loop-e-smaller
loop-e-smaller c = search onward

pub loop-e-preserved : goal.loop-e-preserved
loop-e-preserved c = search tabled_more
