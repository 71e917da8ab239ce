-- `digits_at` meets its contract. Assumes nothing.
use Rattle.desk_commands.proofs.Numbers.{digits_stand}
use Rattle.desk_commands.proofs.parts.digits_at.Goals as goal

pub returns : goal.returns
returns c = rw (← c.tail-rest.ensures) (digits_stand _ _ _ c.digits_end.ensures c.unwrap_or.ensures)
