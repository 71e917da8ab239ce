-- `why` meets its contract: the check, then `why_in_book`. Assumes nothing.
use mathlib.Core.Path.{refl, sym}
use mathlib.Core.Bool.{false}
use Rattle.reasons.proofs.AskedWhy.{why-no_book}
use Rattle.reasons.proofs.asking.why.Goals as goal

pub returns-in-Err : goal.returns-in-Err
returns-in-Err c =
    let none = c.in-Err.ensures.err in
    rw none.0 (why-no_book _ _ _ _ _ _ _ _ _ false (sym none.1) refl)
