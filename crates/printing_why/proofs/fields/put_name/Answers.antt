-- `put_name` meets its contract. Assumes nothing.
use Rattle.lists.specs.Texts.{codes}
use Rattle.printing_why.proofs.Told.{name-put}
use Rattle.printing_why.proofs.fields.put_name.Goals as goal

pub returns : goal.returns
unfolding codes
returns c = name-put c.args.out.now c.args.at c.args.name.now c.requires c.put_text-a.ensures c.put_text-b.ensures c.put_text.ensures
