-- `bare_skip` meets its contract. Assumes nothing.
use mathlib.Core.Path.{◌∙◌}
use Rattle.reading_tokens.proofs.Enders.{skip-from}
use Rattle.reading_tokens.proofs.bare_skip.Goals as goal

pub returns : goal.returns
returns c = c.unwrap_or.ensures ∙ skip-from _ _ _ c.find.ensures
