-- `line_matches` meets its contract: a struck line matches nothing, and the language picks the name. Assumes nothing.
use Rattle.ranking.proofs.LineTests.{match_struck, match_demangled, match_raw}
use Rattle.ranking.proofs.finding.line_matches.Goals as goal

pub returns-then-is_struck : goal.returns-then-is_struck
returns-then-is_struck c = search match_struck

pub returns-then-language_of-eq-CXX : goal.returns-then-language_of-eq-CXX
returns-then-language_of-eq-CXX c = search match_demangled

pub returns : goal.returns
returns c = search match_raw
