-- `locality` meets its contract: the check, then `locality_in_book`. Assumes nothing.
use mathlib.Core.Path.{refl, sym}
use mathlib.Core.Bool.{false}
use Rattle.lookups.proofs.AskedLocality.{locality-no_book}
use Rattle.lookups.proofs.locality_lookup.locality.Goals as goal

pub returns-in-Err : goal.returns-in-Err
returns-in-Err c =
    let none = c.in-Err.ensures.err in
    rw none.0 (locality-no_book _ _ _ _ _ _ _ _ false (sym none.1) refl)
