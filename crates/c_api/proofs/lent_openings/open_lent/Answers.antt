-- `open_lent` meets its contract. Assumes nothing.
use mathlib.Core.Path.{◌≡◌}
use native.Mathlib.Omega.{arith}
use lib.ListN.{length}
use Rattle.c_api.proofs.OpeningExits.{uncounted, place-few, opening-done}
use Rattle.c_api.proofs.lent_openings.open_lent.Goals as goal

pub returns-then-counts-ne-COUNTS : goal.returns-then-counts-ne-COUNTS
returns-then-counts-ne-COUNTS c =
    let other : length c.args.counts.now ≡ 6 → ⊥ = λ e. omega (arith, e, c.if-counts-ne-COUNTS.true) in
    search (uncounted, other)

pub told-requires : goal.told-requires
told-requires c = search place-few

pub returns : goal.returns
returns c =
    let six : length c.args.counts.now ≡ 6 = omega (arith, c.if-counts-ne-COUNTS.false) in
    search (opening-done, six)
