-- `put_why_line` meets its contract. Assumes nothing.
use Rattle.std.proofs.Common.{ap, ◌∙◌, Ok}
use Rattle.packing.specs.Tables.{things}
use Rattle.book.specs.Layout.{node_form}
use Rattle.printing_why.proofs.WhyExits.{refused-put}
use Rattle.printing_why.proofs.fields.put_why_line.Goals as goal

pub put_told-requires : goal.put_told-requires
put_told-requires c = (c.requires.0, c.requires.1, λ r e. c.requires.2 r (c.in-Ok.is ∙ ap Ok e))

pub returns-in-Ok : goal.returns-in-Ok
returns-in-Ok c = rw c.in-Ok.is c.put_told.ensures

pub returns-in-Err : goal.returns-in-Err
returns-in-Err c =
    let a = c.args in
    refused-put a.out.now a.text.now (things node_form a.n a.nodes.now a.names.now) a.name.now c.in-Err.is
    (rw c.number.ensures at c.put_refused_name.ensures)
