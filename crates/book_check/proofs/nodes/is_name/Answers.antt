-- `is_name` meets its contract, part by part. Assumes nothing.
use mathlib.Core.Path.{◌≡◌}
use native.Mathlib.Omega.{arith}
use lib.ListN.{length}
use Rattle.book_check.proofs.NodeChecks.{name_none, name-long, name_bad, name-ends, names-asked}
use mathlib.Core.Path.{ap}
use mathlib.Core.Bool.{not}
use Rattle.book_check.proofs.nodes.is_name.Goals as goal

pub returns-then-name-eq0 : goal.returns-then-name-eq0
returns-then-name-eq0 c = search name_none

pub returns-then-name : goal.returns-then-name
returns-then-name c = name-long _ (omega (arith, c.if-name.true))

pub returns-then-not-all_named : goal.returns-then-not-all_named
returns-then-not-all_named c = search name_bad

pub is_skipped_first-requires : goal.is_skipped_first-requires
is_skipped_first-requires c = search names-asked

pub returns : goal.returns
returns c =
    let some_byte : length c.args.name.now ≡ 0 → ⊥ = λ e. omega (arith, c.if-name-eq0.false) in
    name-ends _ some_byte (omega (arith, c.if-name.false)) _ _ c.all_named.ensures (ap not c.if-not-all_named.false) c.is_skipped_first.ensures
