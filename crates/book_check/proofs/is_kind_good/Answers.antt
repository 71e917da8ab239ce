-- `is_kind_good` meets its contract, by the laws of Holding. Assumes nothing.
use native.Mathlib.Omega.{arith}
use Rattle.book_check.proofs.Holding.{lines-room, regular-passes, more_nodes, rust-edited, star_decides, export_decides}
use Rattle.book_check.proofs.is_kind_good.Goals as goal

pub returns-then-kind-eq-REGULAR : goal.returns-then-kind-eq-REGULAR
returns-then-kind-eq-REGULAR c = search regular-passes

pub returns-then-c-ne1 : goal.returns-then-c-ne1
returns-then-c-ne1 c = more_nodes _ _ _ _ _ _ c.requires c.if-kind-eq-REGULAR.false (λ q. omega (arith, c.if-c-ne1.true))

pub returns-then-c-ne0 : goal.returns-then-c-ne0
returns-then-c-ne0 c =
    rust-edited _ _ _ _ _ _ c.requires c.if-kind-eq-REGULAR.false c.if-kind-eq-RUST.true (λ q. omega (arith, c.if-c-ne0.true))

pub has_star-requires : goal.has_star-requires
has_star-requires c = search lines-room

pub returns-then-kind-eq-RUST : goal.returns-then-kind-eq-RUST
returns-then-kind-eq-RUST c =
    star_decides _ _ _ _ _ _ c.requires c.if-kind-eq-REGULAR.false (omega (arith, c.if-c-ne1.false)) c.if-kind-eq-RUST.true
    (omega (arith, c.if-c-ne0.false)) _ c.has_star.ensures

pub returns : goal.returns
returns c = export_decides _ _ _ _ _ _ c.requires c.if-kind-eq-REGULAR.false (omega (arith, c.if-c-ne1.false)) c.if-kind-eq-RUST.false
