-- `put_marks` meets its contract. Assumes nothing.
use native.Mathlib.Omega.{arith}
use Rattle.lists.specs.Texts.{codes}
use Rattle.printing_why.proofs.Words.{few-section}
use Rattle.printing_why.proofs.Told.{marks-put}
use Rattle.printing_why.proofs.fields.put_marks.Goals as goal

pub put_text-c-requires : goal.put_text-c-requires
put_text-c-requires c = omega (arith, few-section c.args.r.section)

pub put_language-requires : goal.put_language-requires
put_language-requires c = omega (arith, few-section c.args.r.section)

pub returns : goal.returns
unfolding codes
returns c =
    marks-put c.args.out.now c.args.at c.args.r c.requires c.put_text-a.ensures c.put_section-b.ensures c.put_text-c.ensures
    c.put_language.ensures
