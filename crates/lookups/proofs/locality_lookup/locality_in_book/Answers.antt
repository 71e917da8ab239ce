-- `locality_in_book` meets its contract, by the laws of AskedLocality. Assumes nothing.
use Rattle.std.proofs.lemmas.Result.{err_from_is_err_and}
use Rattle.lookups.proofs.Asked.{asks_decider}
use Rattle.lookups.proofs.AskedLocality.{locality-export, locality-no_name, asks-listed, rust-listed, rust-unlisted, locality-decided}
use Rattle.lookups.proofs.locality_lookup.locality_in_book.Goals as goal

pub returns-then-c-eq-EXPORT : goal.returns-then-c-eq-EXPORT
returns-then-c-eq-EXPORT c = search locality-export

pub returns-in_err-name_refusal : goal.returns-in_err-name_refusal
returns-in_err-name_refusal c =
    let p = err_from_is_err_and c.from_residual.result c.from_residual.ensures.1 in
    rw (p.1, p.2) (locality-no_name _ _ _ _ _ _ _ _ c.args.book.holds c.if-c-eq-EXPORT.false _ c.name_refusal.ensures _ c.in_err-name_refusal.was)

pub first_listed-requires : goal.first_listed-requires
first_listed-requires c = search asks-listed

pub returns-then-is_some : goal.returns-then-is_some
returns-then-is_some c =
    rust-listed _ _ _ _ _ _ _ _ c.args.book.holds c.if-c-eq-EXPORT.false _ c.name_refusal.ensures _ c.in_ok-name_refusal.was
    c.if-c-eq-RUST.true _ c.first_listed.ensures _ c.is_some.ensures c.if-is_some.true

pub returns-then-c-eq-RUST : goal.returns-then-c-eq-RUST
returns-then-c-eq-RUST c =
    rust-unlisted _ _ _ _ _ _ _ _ c.args.book.holds c.if-c-eq-EXPORT.false _ c.name_refusal.ensures _ c.in_ok-name_refusal.was
    c.if-c-eq-RUST.true _ c.first_listed.ensures _ c.is_some.ensures c.if-is_some.false

pub decided_locality-requires : goal.decided_locality-requires
decided_locality-requires c = asks_decider _ _ _ _ _ _ _ _ c.args.book.holds _ _ c.name_refusal.ensures _ c.in_ok-name_refusal.was

pub returns : goal.returns
returns c =
    locality-decided _ _ _ _ _ _ _ _ c.args.book.holds c.if-c-eq-EXPORT.false _ c.name_refusal.ensures _ c.in_ok-name_refusal.was
    c.if-c-eq-RUST.false _ c.decided_locality.ensures
