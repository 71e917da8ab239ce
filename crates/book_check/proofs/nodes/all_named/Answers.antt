-- `all_named` meets its contract, as each byte's test is `named`. Assumes nothing.
use mathlib.Core.Path.{◌∙◌}
use borrow.Author.Rules.{rules}
use borrow.Author.Tests.{tests}
use Rattle.std.proofs.lemmas.Iterator.{YieldsList-from_slice}
use Rattle.std.proofs.lemmas.Iterator.Search.{all_from_yields_List}
use Rattle.lists.proofs.Tested.{all_every}
use Rattle.reading_tokens.specs.Tokens.{named}
use Rattle.book_check.proofs.nodes.all_named.Goals as goal

pub returns : goal.returns
returns c =
    let s = c.args.name.now in
    all_from_yields_List named _ _ c.all.result c.all.ensures.ran (YieldsList-from_slice s cc) (λ x b q k. search (rules, tests)) ∙ all_every named s
