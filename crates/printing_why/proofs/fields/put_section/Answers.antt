-- `put_section` meets its contract. Assumes nothing.
use borrow.Author.Tests.{eq-eqb, ne_eqb}
use Rattle.lists.specs.Texts.{codes}
use Rattle.printing_why.specs.WhyLine.{section_word}
use Rattle.printing_why.proofs.fields.put_section.Goals as goal

pub returns-then-section-eq-GLOBAL : goal.returns-then-section-eq-GLOBAL
unfolding section_word codes
returns-then-section-eq-GLOBAL c = rw (eq-eqb _ _ c.if-section-eq-GLOBAL.true) c.put_text.ensures

pub returns : goal.returns
unfolding section_word codes
returns c = rw (ne_eqb _ _ c.if-section-eq-GLOBAL.false) c.put_text-2.ensures
