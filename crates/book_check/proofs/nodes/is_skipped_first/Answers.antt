-- `is_skipped_first` meets its contract, test by test. Assumes nothing.
use mathlib.Core.Path.{refl}
use Rattle.book_check.proofs.NodeChecks.{first_blank, first_hash, first_other, first_slash}
use Rattle.linker_script.specs.Skip.{blank}
use native.Mathlib.Omega.{arith}
use Rattle.book_check.proofs.nodes.is_skipped_first.Goals as goal

pub returns-then-b-eq13 : goal.returns-then-b-eq13
unfolding blank
returns-then-b-eq13 c = first_blank c.args.name.now _ c.byte_at-b.ensures _ c.if-b-eq13.true refl

pub returns-then-b-eq35 : goal.returns-then-b-eq35
returns-then-b-eq35 c = search first_hash

pub returns-then-b-eq47 : goal.returns-then-b-eq47
returns-then-b-eq47 c = search first_slash

pub returns : goal.returns
returns c =
    first_other _ c.requires _ c.byte_at-b.ensures (λ e. omega (arith, c.if-b-eq13.false))
    (λ e. omega (arith, c.if-b-eq35.false)) c.if-b-eq47.false
