-- `source_place` meets its contract. Assumes nothing.
use Rattle.reading_rows.specs.Rows.{place_of}
use Rattle.reading_rows.proofs.Tabling.{decides}
use Rattle.reading_rows.proofs.source_place.Goals as goal

pub returns-in-0 : goal.returns-in-0
unfolding place_of
returns-in-0 c = rw c.in-0.is

pub returns-in-1 : goal.returns-in-1
unfolding place_of
returns-in-1 c = rw c.in-1.is

pub returns-in-2 : goal.returns-in-2
unfolding place_of
returns-in-2 c = rw c.in-2.is

pub returns-in_default : goal.returns-in_default
unfolding place_of
returns-in_default c = search decides
