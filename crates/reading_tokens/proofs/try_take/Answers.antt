-- `try_take` meets its contract. Assumes nothing.
use mathlib.Core.Path.{◌∙◌}
use Rattle.reading_tokens.proofs.Words.{starts-there}
use Rattle.reading_tokens.proofs.try_take.Goals as goal

pub returns : goal.returns
returns c =
    let a = c.args in
    c.starts_with.ensures.value ∙ starts-there a.w.now a.s.now a.at _ c.min.ensures
