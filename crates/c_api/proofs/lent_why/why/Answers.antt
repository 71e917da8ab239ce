-- `why` meets its contract. Assumes nothing.
use Rattle.c_api.proofs.Asked.{why-told}
use Rattle.c_api.proofs.lent_why.why.Goals as goal

pub returns : goal.returns
returns c = search why-told
