-- `has_room` meets its contract. Assumes nothing.
use mathlib.Core.Path.{◌∙◌}
use borrow.Author.Tests.{le-leb}
use Rattle.storing.proofs.Squeezing.{token-fits}
use Rattle.storing.proofs.runs.has_room.Goals as goal

pub returns-then-token-room : goal.returns-then-token-room
returns-then-token-room c = le-leb _ _ c.if-token-room.true ∙ token-fits _ _ _ c.if-token-room.true
