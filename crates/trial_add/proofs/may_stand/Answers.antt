-- `may_stand` meets its contract. Assumes nothing.
use mathlib.Core.Bool.{and-false}
use native.Mathlib.Omega.{arith}
use borrow.Author.Tests.{eq-eqb, le-leb, le-ltb, lt-leb, lt-ltb, ne_eqb}
use Rattle.trial_add.proofs.may_stand.Goals as goal

pub returns-then-nodes-node : goal.returns-then-nodes-node
returns-then-nodes-node c = let a = c.args in rw (le-ltb a.node a.nodes (omega (arith, c.if-nodes-node.true)))

pub returns-then-section-gt-LOCAL : goal.returns-then-section-gt-LOCAL
returns-then-section-gt-LOCAL c = simp (lt-leb _ _ c.if-section-gt-LOCAL.true, and-false)

pub returns-then-language-gt-CXX : goal.returns-then-language-gt-CXX
returns-then-language-gt-CXX c = simp (lt-leb _ _ c.if-language-gt-CXX.true, and-false)

pub returns-then-kind-ne-EXPORT : goal.returns-then-kind-ne-EXPORT
returns-then-kind-ne-EXPORT c =
    let a = c.args in
    rw (
      lt-ltb a.node a.nodes (omega (arith, c.if-nodes-node.false)),
      le-leb _ _ c.if-section-gt-LOCAL.false,
      le-leb _ _ c.if-language-gt-CXX.false,
      ne_eqb _ _ c.if-kind-ne-EXPORT.true,
    )

pub returns-then-section-ne-GLOBAL : goal.returns-then-section-ne-GLOBAL
returns-then-section-ne-GLOBAL c = simp (eq-eqb _ _ c.if-kind-ne-EXPORT.false, ne_eqb _ _ c.if-section-ne-GLOBAL.true, and-false)

pub returns : goal.returns
returns c =
    let a = c.args in
    rw (
      lt-ltb a.node a.nodes (omega (arith, c.if-nodes-node.false)),
      le-leb _ _ c.if-section-gt-LOCAL.false,
      le-leb _ _ c.if-language-gt-CXX.false,
      eq-eqb _ _ c.if-kind-ne-EXPORT.false,
      eq-eqb _ _ c.if-section-ne-GLOBAL.false,
    )
