-- `put_text` meets its contract. Assumes nothing.
use mathlib.Core.Path.{refl, ◌∙◌}
use Rattle.printing.proofs.Pieces.{pasted}
use Rattle.printing.proofs.put_text.Goals as goal

pub returns : goal.returns
returns c =
    let a = c.args in
    (refl, c.put_bytes.ensures ∙ pasted a.out.now a.at a.text.now)
