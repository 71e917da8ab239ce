-- `version_count` meets its contract. Assumes nothing.
use Rattle.c_api.proofs.Asked.{versions-told}
use Rattle.c_api.proofs.lent_questions.version_count.Goals as goal

pub returns : goal.returns
returns c = search versions-told
