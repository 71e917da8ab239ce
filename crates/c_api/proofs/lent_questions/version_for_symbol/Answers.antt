-- `version_for_symbol` meets its contract. Assumes nothing.
use Rattle.c_api.proofs.Asked.{version-told}
use Rattle.c_api.proofs.lent_questions.version_for_symbol.Goals as goal

pub returns : goal.returns
returns c = search version-told
