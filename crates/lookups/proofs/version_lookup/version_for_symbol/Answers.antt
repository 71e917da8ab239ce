-- `version_for_symbol` meets its contract: the check, then `version_in_book`. Assumes nothing.
use mathlib.Core.Path.{refl, sym}
use mathlib.Core.Bool.{false}
use Rattle.lookups.proofs.AskedVersion.{version-no_book}
use Rattle.lookups.proofs.version_lookup.version_for_symbol.Goals as goal

pub returns-in-Err : goal.returns-in-Err
returns-in-Err c =
    let none = c.in-Err.ensures.err in
    rw none.0 (version-no_book _ _ _ _ _ _ _ _ _ false (sym none.1) refl)
