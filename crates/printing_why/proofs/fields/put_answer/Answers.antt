-- `put_answer` meets its contract. Assumes nothing.
use native.Mathlib.Omega.{arith}
use lib.ListN.{length}
use Rattle.printing_why.proofs.Told.{answer-put}
use Rattle.printing_why.proofs.fields.put_answer.Goals as goal

pub returns : goal.returns
returns c =
    answer-put c.args.out.now c.args.name.now c.args.answer.now (length c.args.answer.now) (omega arith) c.requires
    c.put_text-a.ensures c.put_text-b.ensures c.put_text-c.ensures c.put_text.ensures
