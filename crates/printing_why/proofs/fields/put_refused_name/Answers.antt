-- `put_refused_name` meets its contract. Assumes nothing.
use native.Mathlib.Omega.{arith}
use Rattle.printing.specs.Printing.{refused_fields}
use Rattle.printing.proofs.Pieces.{few-refused}
use Rattle.printing_why.proofs.Told.{answer-put}
use Rattle.printing_why.proofs.fields.put_refused_name.Goals as goal

pub put_text-requires : goal.put_text-requires
put_text-requires c = omega (arith, few-refused c.args.no)

pub returns : goal.returns
returns c =
    answer-put c.args.out.now c.args.name.now (refused_fields c.args.no) 12 (few-refused c.args.no) (omega (arith, c.requires))
    c.put_text-a.ensures c.put_text-b.ensures c.put_refused_fields-c.ensures c.put_text.ensures
