-- `why_in_book` meets its contract, by the laws of AskedWhy. Assumes nothing.
use Rattle.std.proofs.Common.{ap}
use Rattle.lookups.specs.Lookups.{bytes_of}
use Rattle.lookups.proofs.AskedVersion.{asks-wanted}
use Rattle.reasons.proofs.AskedWhy.{asks-ranked, asks-rust, why-barred, why-no_name, why-rust, why-ranked, why-wanted}
use Rattle.reasons.proofs.asking.why_in_book.Goals as goal

pub returns-then-is_barred : goal.returns-then-is_barred
returns-then-is_barred c = search why-barred

pub returns-in-Err : goal.returns-in-Err
returns-in-Err c = why-no_name _ _ _ _ _ _ _ _ _ c.args.book.holds _ c.is_barred.ensures c.if-is_barred.false _ c.is_long.ensures _ c.name_refusal.ensures _ c.in-Err.is

pub rust_why-requires : goal.rust_why-requires
rust_why-requires c = asks-rust _ _ _ _ _ _ c.args.book.holds

pub returns-then-c-eq-RUST : goal.returns-then-c-eq-RUST
returns-then-c-eq-RUST c = why-rust _ _ _ _ _ _ _ _ _ c.args.book.holds _ c.is_barred.ensures c.if-is_barred.false _ c.is_long.ensures _ c.name_refusal.ensures _ c.in_default.is c.if-c-eq-RUST.true _ c.rust_why.ensures

pub wanted_version-requires : goal.wanted_version-requires
wanted_version-requires c = asks-wanted _ _ _ _ _ _ c.args.book.holds

pub returns-in-Ok : goal.returns-in-Ok
returns-in-Ok c =
    let w = why-wanted _ _ _ _ _ _ _ _ _ c.args.book.holds _ c.is_barred.ensures c.if-is_barred.false _ c.is_long.ensures _ c.name_refusal.ensures _ c.in_default.is c.if-c-eq-RUST.false
    _ (ap bytes_of c.in-Some.is) _ c.wanted_version.ensures in
    rw c.in-Ok.is at w

pub returns-in-Err-wanted_version : goal.returns-in-Err-wanted_version
returns-in-Err-wanted_version c =
    let w = why-wanted _ _ _ _ _ _ _ _ _ c.args.book.holds _ c.is_barred.ensures c.if-is_barred.false _ c.is_long.ensures _ c.name_refusal.ensures _ c.in_default.is c.if-c-eq-RUST.false
    _ (ap bytes_of c.in-Some.is) _ c.wanted_version.ensures in
    rw c.in-Err-wanted_version.is at w

pub ranked_why-requires : goal.ranked_why-requires
ranked_why-requires c = asks-ranked _ _ _ _ _ _ _ _ _ c.args.book.holds _ c.is_barred.ensures c.if-is_barred.false _ c.is_long.ensures _ c.name_refusal.ensures _ c.in_default.is

pub returns-in-None : goal.returns-in-None
returns-in-None c =
    why-ranked _ _ _ _ _ _ _ _ _ c.args.book.holds _ c.is_barred.ensures c.if-is_barred.false _ c.is_long.ensures _ c.name_refusal.ensures _ c.in_default.is c.if-c-eq-RUST.false (ap bytes_of c.in-None.is) _ c.ranked_why.ensures
