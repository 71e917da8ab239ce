-- `is_bare_star` meets its contract. Assumes nothing.
use mathlib.Core.Path.{◌≡◌}
use native.Mathlib.Omega.{arith}
use Rattle.numbers.specs.Classes.{all_class}
use Rattle.numbers.specs.Marks.{local}
use Rattle.book_check.proofs.LineChecks.{star_no_all, star-global, star-general}
use Rattle.book_check.proofs.lines.is_bare_star.Goals as goal

pub returns-then-class_of-ne-ALL_CLASS : goal.returns-then-class_of-ne-ALL_CLASS
returns-then-class_of-ne-ALL_CLASS c = star_no_all _ _ c.class_of.ensures (λ e. omega (arith, c.if-class_of-ne-ALL_CLASS.true))

pub returns-then-section_of-ne-LOCAL : goal.returns-then-section_of-ne-LOCAL
returns-then-section_of-ne-LOCAL c =
    let at_all : c.class_of.result ≡ all_class = omega (arith, c.if-class_of-ne-ALL_CLASS.false) in
    star-global _ _ c.class_of.ensures at_all _ c.section_of.ensures (λ e. omega (arith, c.if-section_of-ne-LOCAL.true))

pub returns : goal.returns
returns c =
    let at_all : c.class_of.result ≡ all_class = omega (arith, c.if-class_of-ne-ALL_CLASS.false) in
    let is-local : c.section_of.result ≡ local = omega (arith, c.if-section_of-ne-LOCAL.false) in
    star-general _ _ c.class_of.ensures at_all _ c.section_of.ensures is-local _ c.language_of.ensures
