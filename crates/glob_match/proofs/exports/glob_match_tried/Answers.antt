-- `glob_match_tried` meets its contract. Assumes nothing.
use Rattle.glob_match.proofs.Telling.{pattern_over, name-over, unasked-over, unasked-done}
use Rattle.glob_match.proofs.exports.glob_match_tried.Goals as goal

pub returns-then-stored-gt-TOKEN_LIMIT : goal.returns-then-stored-gt-TOKEN_LIMIT
returns-then-stored-gt-TOKEN_LIMIT c = search (unasked-over, pattern_over)

pub returns-then-name-gt-NAME_LIMIT : goal.returns-then-name-gt-NAME_LIMIT
returns-then-name-gt-NAME_LIMIT c = search (unasked-over, name-over)

pub returns : goal.returns
returns c = unasked-done _ _ _ c.if-stored-gt-TOKEN_LIMIT.false c.if-name-gt-NAME_LIMIT.false _ c.match_name.ensures _ c.told.ensures
