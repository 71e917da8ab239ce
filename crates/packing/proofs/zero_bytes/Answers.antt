-- `zero_bytes` meets its contract: the chain tells what `every` says. Assumes nothing.
use Rattle.std.proofs.Common.{rules, ◌∙◌, nat_eq}
use Rattle.std.proofs.lemmas.Iterator.{YieldsList-from_slice}
use Rattle.std.proofs.lemmas.Iterator.Adapters.{YieldsList-from_skip}
use Rattle.std.proofs.lemmas.Iterator.Search.{all_from_yields_List}
use Rattle.lists.proofs.Tested.{all_every}
use Rattle.packing.specs.Padding.{all_zero}
use Rattle.packing.proofs.zero_bytes.Goals as goal

pub returns : goal.returns
unfolding all_zero
returns c =
    let a = c.args in
    all_from_yields_List (λ x. nat_eq x 0) _ _ _ c.all.ensures.ran
    (YieldsList-from_skip a.from (YieldsList-from_slice a.bytes.now cc) cc) (λ x b q k. search rules)
    ∙ all_every _ _
