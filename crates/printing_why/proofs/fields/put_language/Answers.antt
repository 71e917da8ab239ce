-- `put_language` meets its contract. Assumes nothing.
use borrow.Author.Tests.{eq-eqb, ne_eqb}
use Rattle.lists.specs.Texts.{codes}
use Rattle.printing_why.specs.WhyLine.{language_word}
use Rattle.printing_why.proofs.fields.put_language.Goals as goal

pub returns-then-language-eq-GENERAL : goal.returns-then-language-eq-GENERAL
unfolding language_word codes
returns-then-language-eq-GENERAL c = rw (eq-eqb _ _ c.if-language-eq-GENERAL.true) c.put_text.ensures

pub returns : goal.returns
unfolding language_word codes
returns c = rw (ne_eqb _ _ c.if-language-eq-GENERAL.false) c.put_text-2.ensures
