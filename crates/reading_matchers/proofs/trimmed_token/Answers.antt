-- `trimmed_token` meets its contract. Assumes nothing.
use Rattle.reading_tokens.proofs.Words.{trimmed-outside, trimmed-empty, trimmed_rest, trimmed-part}
use Rattle.reading_matchers.proofs.trimmed_token.Goals as goal

pub returns-then-s-p : goal.returns-then-s-p
returns-then-s-p c = search trimmed-outside

pub returns-then-q-p : goal.returns-then-q-p
returns-then-q-p c = search trimmed-empty

pub returns-then-s-q : goal.returns-then-s-q
returns-then-s-q c = search trimmed_rest

pub returns : goal.returns
returns c = search trimmed-part
