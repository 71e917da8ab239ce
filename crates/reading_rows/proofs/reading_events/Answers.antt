-- `reading_events` meets its contract. Assumes nothing.
use Rattle.reading_rows.proofs.Tabling.{over-told, over-rows, within-told, within-rows}
use Rattle.reading_rows.proofs.reading_events.Goals as goal

pub returns-then-text-gt-SCRIPT_LIMIT : goal.returns-then-text-gt-SCRIPT_LIMIT
returns-then-text-gt-SCRIPT_LIMIT c = (search over-told, search over-rows)

pub returns : goal.returns
returns c = (search within-told, search within-rows)
