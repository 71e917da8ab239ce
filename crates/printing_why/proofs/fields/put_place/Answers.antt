-- `put_place` meets its contract. Assumes nothing.
use native.Mathlib.Omega.{arith}
use Rattle.lists.specs.Texts.{codes}
use Rattle.printing.proofs.Pieces.{few-spaced}
use Rattle.printing_why.proofs.Spots.{column_fits, line-fits}
use Rattle.printing_why.proofs.Told.{no_place, place-put}
use Rattle.printing_why.proofs.fields.put_place.Goals as goal

pub returns-then-offset-eq0 : goal.returns-then-offset-eq0
returns-then-offset-eq0 c =
    let a = c.args in
    no_place a.out.now a.at a.text.now a.offset (omega (arith, c.if-offset-eq0.true))

pub overflow_cast-q : goal.overflow_cast-q
overflow_cast-q c = line-fits c.args.text.now c.args.offset c.ranges.offset c.position_of-q.result c.position_of-q.ensures

pub put_text-b-requires : goal.put_text-b-requires
unfolding codes
put_text-b-requires c = omega (arith, few-spaced (codes " at") c.position_of-q.result.line)

pub overflow_cast-q-2 : goal.overflow_cast-q-2
overflow_cast-q-2 c = column_fits c.args.text.now c.args.offset c.ranges.offset c.position_of-q.result c.position_of-q.ensures

pub put_number-requires : goal.put_number-requires
unfolding codes
put_number-requires c = omega (arith, few-spaced (codes " at") c.position_of-q.result.line)

pub returns : goal.returns
unfolding codes
returns c =
    place-put c.args.out.now c.args.at c.args.text.now c.args.offset c.if-offset-eq0.false c.position_of-q.result
    c.position_of-q.ensures c.requires c.put_spaced-a.ensures c.put_text-b.ensures c.put_number.ensures
