-- `put_head` meets its contract. Assumes nothing.
use native.Mathlib.Omega.{arith}
use Rattle.lists.specs.Texts.{codes}
use Rattle.printing.proofs.Pieces.{few-spaced}
use Rattle.printing_why.proofs.Words.{few-class}
use Rattle.printing_why.proofs.Told.{head_put}
use Rattle.printing_why.proofs.fields.put_head.Goals as goal

pub put_text-b-requires : goal.put_text-b-requires
unfolding codes
put_text-b-requires c = omega (arith, few-spaced (codes "line") c.args.r.line)

pub put_class-c-requires : goal.put_class-c-requires
unfolding codes
put_class-c-requires c = omega (arith, few-spaced (codes "line") c.args.r.line)

pub put_spaced-requires : goal.put_spaced-requires
unfolding codes
put_spaced-requires c =
    let r = c.args.r in
    omega (arith, few-spaced (codes "line") r.line, few-class r.class)

pub returns : goal.returns
unfolding codes
returns c =
    head_put c.args.out.now c.args.at c.args.r c.requires c.put_spaced-a.ensures c.put_text-b.ensures c.put_class-c.ensures
    c.put_spaced.ensures
