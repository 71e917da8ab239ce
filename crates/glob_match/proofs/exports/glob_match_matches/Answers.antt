-- `glob_match_matches` meets its contract. Assumes nothing.
use Rattle.glob_match.proofs.Telling.{pattern_over, name-over, match_over, match_refused, match_not_utf8, match_done}
use Rattle.glob_match.proofs.exports.glob_match_matches.Goals as goal

pub returns-then-stored-gt-TOKEN_LIMIT : goal.returns-then-stored-gt-TOKEN_LIMIT
returns-then-stored-gt-TOKEN_LIMIT c = search (match_over, pattern_over)

pub returns-then-name-gt-NAME_LIMIT : goal.returns-then-name-gt-NAME_LIMIT
returns-then-name-gt-NAME_LIMIT c = search (match_over, name-over)

pub returns-in-Err : goal.returns-in-Err
returns-in-Err c = search match_refused

pub returns-then-not-is_utf8 : goal.returns-then-not-is_utf8
returns-then-not-is_utf8 c = search match_not_utf8

pub returns : goal.returns
returns c = search match_done
