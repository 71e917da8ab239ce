-- `version_in_book` meets its contract, by the laws of AskedVersion. Assumes nothing.
use Rattle.std.proofs.Common.{ap}
use Rattle.std.proofs.lemmas.Result.{err_from_is_err_and}
use Rattle.lookups.proofs.Asked.{asks_decider}
use Rattle.lookups.specs.Lookups.{bytes_of}
use Rattle.lookups.proofs.AskedVersion.{version-export, version-no_name, version-rust, asks-wanted, version_wanted, version-decided}
use Rattle.lookups.proofs.version_lookup.version_in_book.Goals as goal

pub returns-then-c-eq-EXPORT : goal.returns-then-c-eq-EXPORT
returns-then-c-eq-EXPORT c = search version-export

pub returns-in_err-name_refusal : goal.returns-in_err-name_refusal
returns-in_err-name_refusal c =
    let p = err_from_is_err_and c.from_residual.result c.from_residual.ensures.1 in
    rw (p.1, p.2) (version-no_name _ _ _ _ _ _ _ _ _ c.args.book.holds c.if-c-eq-EXPORT.false _ c.is_long.ensures _ c.name_refusal.ensures _ c.in_err-name_refusal.was)

pub returns-then-c-eq-RUST : goal.returns-then-c-eq-RUST
returns-then-c-eq-RUST c =
    version-rust _ _ _ _ _ _ _ _ _ c.args.book.holds c.if-c-eq-EXPORT.false _ c.is_long.ensures _ c.name_refusal.ensures _ c.in_ok-name_refusal.was
    c.if-c-eq-RUST.true

pub wanted_version-requires : goal.wanted_version-requires
wanted_version-requires c = asks-wanted _ _ _ _ _ _ c.args.book.holds

pub decided_version-requires : goal.decided_version-requires
decided_version-requires c = asks_decider _ _ _ _ _ _ _ _ c.args.book.holds _ _ c.name_refusal.ensures _ c.in_ok-name_refusal.was

pub returns-in-Ok : goal.returns-in-Ok
returns-in-Ok c =
    let w = version_wanted _ _ _ _ _ _ _ _ _ c.args.book.holds c.if-c-eq-EXPORT.false _ c.is_long.ensures _ c.name_refusal.ensures _ c.in_ok-name_refusal.was
    c.if-c-eq-RUST.false _ (ap bytes_of c.in-Some.is) _ c.wanted_version.ensures in
    rw c.in-Ok.is at w

pub returns-in-Err : goal.returns-in-Err
returns-in-Err c =
    let w = version_wanted _ _ _ _ _ _ _ _ _ c.args.book.holds c.if-c-eq-EXPORT.false _ c.is_long.ensures _ c.name_refusal.ensures _ c.in_ok-name_refusal.was
    c.if-c-eq-RUST.false _ (ap bytes_of c.in-Some.is) _ c.wanted_version.ensures in
    rw c.in-Err.is at w

pub returns-in-None : goal.returns-in-None
returns-in-None c =
    version-decided _ _ _ _ _ _ _ _ _ c.args.book.holds c.if-c-eq-EXPORT.false _ c.is_long.ensures _ c.name_refusal.ensures _ c.in_ok-name_refusal.was
    c.if-c-eq-RUST.false (ap bytes_of c.in-None.is) _ c.decided_version.ensures
