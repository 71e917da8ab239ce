-- `put_row` meets its contract. Assumes nothing.
use Rattle.reading_rows.specs.Rows.{row}
use Rattle.reading_rows.proofs.Tabling.{row_put}
use Rattle.reading_rows.proofs.put_row.Goals as goal

pub returns-in-Node : goal.returns-in-Node
unfolding row
returns-in-Node c = search row_put

pub returns-in-Body : goal.returns-in-Body
unfolding row
returns-in-Body c = search row_put

pub returns-in-Section : goal.returns-in-Section
unfolding row
returns-in-Section c = search row_put

pub returns-in-Extern : goal.returns-in-Extern
unfolding row
returns-in-Extern c = search row_put

pub returns-in-Closed : goal.returns-in-Closed
unfolding row
returns-in-Closed c = search row_put

pub returns-in-Line : goal.returns-in-Line
unfolding row
returns-in-Line c = search row_put

pub returns-in-Parent : goal.returns-in-Parent
unfolding row
returns-in-Parent c = search row_put
