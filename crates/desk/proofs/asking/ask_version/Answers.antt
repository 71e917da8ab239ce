-- `ask_version` meets its contract. Assumes nothing.
use Rattle.desk.proofs.AskExits.{version-put-asked}
use Rattle.desk.proofs.asking.ask_version.Goals as goal

pub returns : goal.returns
returns c = search version-put-asked
