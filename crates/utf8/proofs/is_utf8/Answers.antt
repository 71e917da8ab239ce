use Rattle.std.proofs.Common.{arith}
use Rattle.std.proofs.lemmas.Grind.{common_steps}
use Rattle.utf8.proofs.StdUtf8.{utf8_is, is_utf8}
use Rattle.utf8.proofs.is_utf8.Goals as goal

pub returns : goal.returns
returns c = grind (arith, common_steps, utf8_is, is_utf8)
