-- `member_at` meets its contract. Assumes nothing.
use Rattle.pattern.proofs.BracketExits.{single-plain, single-open, range-from, range_above}
use Rattle.pattern.proofs.bracket.member_at.Goals as goal
use Rattle.pattern.proofs.bracket.member_at.Goals.{then-second-ne45-via-then-second-ne45, then-second-ne45-via-else-second-ne45+then-body-second}

pub returns-then-second-ne45 : goal.returns-then-second-ne45
returns-then-second-ne45 c =
    elim c.then-second-ne45.branch [
      | then-second-ne45-via-then-second-ne45 w ↦ search single-plain
      | then-second-ne45-via-else-second-ne45+then-body-second w ↦ search single-open
    ]

pub returns-then-first-x : goal.returns-then-first-x
returns-then-first-x c = search range-from

pub returns-else-first-x : goal.returns-else-first-x
returns-else-first-x c = search range_above
