-- `how_of` meets its contract. Assumes nothing.
use Rattle.trial_desk.proofs.Choices.{list_chosen, script_chosen}
use Rattle.trial_desk.proofs.how_of.Goals as goal

pub returns-then-export : goal.returns-then-export
returns-then-export c = list_chosen _ c.if-export.true

pub returns : goal.returns
returns c = script_chosen _ c.if-export.false
