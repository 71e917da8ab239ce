-- `ask_member` meets its contract. Assumes nothing.
use Rattle.desk.proofs.AskExits.{member-put-asked}
use Rattle.desk.proofs.asking.ask_member.Goals as goal

pub returns : goal.returns
returns c = search member-put-asked
