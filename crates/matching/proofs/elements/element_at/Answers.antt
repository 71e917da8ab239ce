-- `element_at` meets its contract. Assumes nothing.
use Rattle.utf8.proofs.Ascii.{walk-within}
use Rattle.matching.proofs.ElementExits.{element-ends, is_star, is_any, is_bracket, literal-takes, literal-fails}
use Rattle.matching.proofs.elements.element_at.Goals as goal

pub returns-then-p-at : goal.returns-then-p-at
returns-then-p-at c = search element-ends

pub returns-in-42 : goal.returns-in-42
returns-in-42 c = search is_star

pub returns-in-63 : goal.returns-in-63
returns-in-63 c = search is_any

pub bracket_at-requires : goal.bracket_at-requires
bracket_at-requires c = search walk-within

pub returns-in-91 : goal.returns-in-91
returns-in-91 c = search is_bracket

pub returns-in_default : goal.returns-in_default
returns-in_default c = search literal-takes

pub returns-in_default-2 : goal.returns-in_default-2
returns-in_default-2 c = search literal-fails
