-- `put_class` meets its contract, class by class. Assumes nothing.
use borrow.Author.Tests.{eq-eqb, ne_eqb}
use Rattle.lists.specs.Texts.{codes}
use Rattle.printing_why.specs.WhyLine.{class_word}
use Rattle.printing_why.proofs.fields.put_class.Goals as goal

pub returns-then-class-eq-EXACT_CLASS : goal.returns-then-class-eq-EXACT_CLASS
unfolding class_word codes
returns-then-class-eq-EXACT_CLASS c = rw (eq-eqb _ _ c.if-class-eq-EXACT_CLASS.true) c.put_text.ensures

pub returns-then-class-eq-ESCAPED_CLASS : goal.returns-then-class-eq-ESCAPED_CLASS
unfolding class_word codes
returns-then-class-eq-ESCAPED_CLASS c =
    rw (ne_eqb _ _ c.if-class-eq-EXACT_CLASS.false, eq-eqb _ _ c.if-class-eq-ESCAPED_CLASS.true) c.put_text-then-class-eq-ESCAPED_CLASS.ensures

pub returns-then-class-eq-NONSTAR_CLASS : goal.returns-then-class-eq-NONSTAR_CLASS
unfolding class_word codes
returns-then-class-eq-NONSTAR_CLASS c =
    rw (ne_eqb _ _ c.if-class-eq-EXACT_CLASS.false, ne_eqb _ _ c.if-class-eq-ESCAPED_CLASS.false, eq-eqb _ _ c.if-class-eq-NONSTAR_CLASS.true) c.put_text-then-class-eq-NONSTAR_CLASS.ensures

pub returns-then-class-eq-STAR_CLASS : goal.returns-then-class-eq-STAR_CLASS
unfolding class_word codes
returns-then-class-eq-STAR_CLASS c =
    rw (ne_eqb _ _ c.if-class-eq-EXACT_CLASS.false, ne_eqb _ _ c.if-class-eq-ESCAPED_CLASS.false, ne_eqb _ _ c.if-class-eq-NONSTAR_CLASS.false, eq-eqb _ _ c.if-class-eq-STAR_CLASS.true)
    c.put_text-then-class-eq-STAR_CLASS.ensures

pub returns : goal.returns
unfolding class_word codes
returns c =
    rw (ne_eqb _ _ c.if-class-eq-EXACT_CLASS.false, ne_eqb _ _ c.if-class-eq-ESCAPED_CLASS.false, ne_eqb _ _ c.if-class-eq-NONSTAR_CLASS.false, ne_eqb _ _ c.if-class-eq-STAR_CLASS.false)
    c.put_text-2.ensures
