-- `kind_allows` meets its contract. Assumes nothing.
use native.Mathlib.Omega.{arith}
use Rattle.book_check.proofs.LineChecks.{allows-local, allows_no_glob, allows-general, allows-global, allows_any}
use Rattle.book_check.proofs.lines.kind_allows.Goals as goal

pub returns-then-section-ne-GLOBAL : goal.returns-then-section-ne-GLOBAL
returns-then-section-ne-GLOBAL c = search allows-local

pub returns-then-class_of-ne-EXACT_CLASS : goal.returns-then-class_of-ne-EXACT_CLASS
returns-then-class_of-ne-EXACT_CLASS c =
    allows_no_glob _ _ _ c.section_of-section.ensures c.if-kind-eq-RUST.true c.if-section-ne-GLOBAL.false _ c.class_of.ensures
    (λ e. omega (arith, c.if-class_of-ne-EXACT_CLASS.true))

pub returns-then-kind-eq-RUST : goal.returns-then-kind-eq-RUST
returns-then-kind-eq-RUST c = search allows-general

pub returns-then-kind-eq-EXPORT : goal.returns-then-kind-eq-EXPORT
returns-then-kind-eq-EXPORT c = search allows-global

pub returns : goal.returns
returns c = search allows_any
