-- `has_no_semicolon` meets its contract, as each byte's test is that it is no `;`. Assumes nothing.
use mathlib.Core.Path.{◌∙◌}
use borrow.Author.Rules.{rules}
use borrow.Author.Tests.{tests}
use Rattle.std.proofs.lemmas.Iterator.{YieldsList-from_slice}
use Rattle.std.proofs.lemmas.Iterator.Search.{all_from_yields_List}
use Rattle.lists.proofs.Tested.{all_every}
use Rattle.book.specs.Sanity.{no_semicolon}
use Rattle.book_check.proofs.nodes.has_no_semicolon.Goals as goal

pub returns : goal.returns
returns c =
    let s = c.args.name.now in
    all_from_yields_List no_semicolon _ _ c.all.result c.all.ensures.ran (YieldsList-from_slice s cc) (λ x b q k. search (rules, tests)) ∙ all_every no_semicolon s
