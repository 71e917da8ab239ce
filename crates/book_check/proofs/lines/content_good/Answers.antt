-- `content_good` meets its contract. Assumes nothing.
use native.Mathlib.Omega.{arith}
use Rattle.book_check.proofs.LineChecks.{content_nonstar, content_star, content_plain}
use Rattle.book_check.proofs.lines.content_good.Goals as goal

pub returns-then-class-eq-NONSTAR_CLASS : goal.returns-then-class-eq-NONSTAR_CLASS
returns-then-class-eq-NONSTAR_CLASS c =
    content_nonstar _ _ _ c.class_of-class.ensures _ _ (omega (arith, c.if-class-eq-NONSTAR_CLASS.true)) c.glob_stands.ensures

pub returns-then-class-eq-STAR_CLASS : goal.returns-then-class-eq-STAR_CLASS
returns-then-class-eq-STAR_CLASS c =
    content_star _ _ _ c.class_of-class.ensures _ _ (λ h. omega (arith, c.if-class-eq-NONSTAR_CLASS.false, h)) (omega (arith, c.if-class-eq-STAR_CLASS.true)) c.glob_stands-then-class-eq-STAR_CLASS.ensures

pub returns : goal.returns
returns c =
    content_plain _ _ _ c.class_of-class.ensures _ (λ h. omega (arith, c.if-class-eq-NONSTAR_CLASS.false, h)) (λ h. omega (arith, c.if-class-eq-STAR_CLASS.false, h))
