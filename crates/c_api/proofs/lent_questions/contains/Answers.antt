-- `contains` meets its contract. Assumes nothing.
use Rattle.c_api.proofs.Asked.{contains-told}
use Rattle.c_api.proofs.lent_questions.contains.Goals as goal

pub returns : goal.returns
returns c = search contains-told
