-- `parent_count` meets its contract. Assumes nothing.
use Rattle.c_api.proofs.Asked.{parents-told}
use Rattle.c_api.proofs.lent_questions.parent_count.Goals as goal

pub returns : goal.returns
returns c = search parents-told
