-- `is_mark` meets its contract. Assumes nothing.
use Rattle.std.proofs.Common.{◌≡◌, true, false, [], ◌∷◌, nat_eq, ◌∙◌}
use lib.Pointwise.{pointwise}
use Rattle.input.proofs.Marks.{marks_ahead, marks_alone}
use Rattle.input.proofs.splitting.is_mark.Goals as goal

pub returns-then-eq : goal.returns-then-eq
returns-then-eq c =
    let same : true ≡ pointwise nat_eq c.args.s.now (37 ∷ 37 ∷ []) = cc in
    c.if-eq.true ∙ marks_alone c.args.s.now same

pub returns-else-eq : goal.returns-else-eq
returns-else-eq c =
    let other : false ≡ pointwise nat_eq c.args.s.now (37 ∷ 37 ∷ []) = cc in
    c.starts_with.ensures.value ∙ marks_ahead c.args.s.now other
