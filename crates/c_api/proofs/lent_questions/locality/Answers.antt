-- `locality` meets its contract. Assumes nothing.
use Rattle.c_api.proofs.Asked.{locality-told}
use Rattle.c_api.proofs.lent_questions.locality.Goals as goal

pub returns : goal.returns
returns c = search locality-told
