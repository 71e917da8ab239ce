-- `put_offset` meets its contract. Assumes nothing.
use native.Mathlib.Omega.{arith}
use Rattle.lists.specs.Texts.{codes}
use Rattle.printing.proofs.Pieces.{few-spaced}
use Rattle.printing_why.proofs.Told.{offset-put}
use Rattle.printing_why.proofs.fields.put_offset.Goals as goal

pub put_place-requires : goal.put_place-requires
unfolding codes
put_place-requires c = omega (arith, few-spaced (codes " offset") c.args.r.offset)

pub returns : goal.returns
unfolding codes
returns c = offset-put c.args.out.now c.args.at c.args.text.now c.args.r c.requires c.put_spaced-a.ensures c.put_place.ensures
