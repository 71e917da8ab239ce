-- `only_stars` meets its contract. Assumes nothing.
use Rattle.std.proofs.Common.{rules, ◌∙◌, nat_eq}
use Rattle.std.proofs.lemmas.Iterator.{YieldsList-from_slice}
use Rattle.std.proofs.lemmas.Iterator.Adapters.{YieldsList-from_skip}
use Rattle.std.proofs.lemmas.Iterator.Search.{all_from_yields_List}
use Rattle.matching.proofs.Turns.{stars_only}
use Rattle.matching.proofs.only_stars.Goals as goal

pub returns : goal.returns
returns c =
    let a = c.args in
    all_from_yields_List (λ x. nat_eq x 42) _ _ _ c.all.ensures.ran
    (YieldsList-from_skip a.from (YieldsList-from_slice a.p.now cc) cc) (λ x b q k. search rules)
    ∙ stars_only a.edition _
