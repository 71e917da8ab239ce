-- `class_matches` meets its contract: each class is asked as its definition asks it. Assumes nothing.
use borrow.Author.Tests.{eq-eqb, ne_eqb, le-leb, lt-leb}
use Rattle.matching.specs.Tests.{match_of}
use Rattle.ranking.specs.Matching.{class_matches}
use Rattle.ranking.proofs.finding.class_matches.Goals as goal

pub returns-then-class-le-ESCAPED_CLASS : goal.returns-then-class-le-ESCAPED_CLASS
unfolding class_matches
returns-then-class-le-ESCAPED_CLASS c = simp (le-leb _ _ c.if-class-le-ESCAPED_CLASS.true, c.same_bytes.ensures)

pub returns-then-class-eq-ALL_CLASS : goal.returns-then-class-eq-ALL_CLASS
unfolding class_matches
returns-then-class-eq-ALL_CLASS c = simp (lt-leb _ _ c.if-class-le-ESCAPED_CLASS.false, eq-eqb _ _ c.if-class-eq-ALL_CLASS.true)

pub returns : goal.returns
unfolding class_matches match_of
returns c = simp (lt-leb _ _ c.if-class-le-ESCAPED_CLASS.false, ne_eqb _ _ c.if-class-eq-ALL_CLASS.false, c.match_name-tried.ensures)
