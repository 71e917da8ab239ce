-- `store_scanned` meets its contract. Assumes nothing.
use Rattle.storing.proofs.Answers.{all_answer, all_buffer, same_answer, same_buffer}
use Rattle.storing.proofs.Keeping.{keep_lone, keep_exact, keep-escaped, keep_non_star, keep-star, keep_all}
use Rattle.storing.proofs.store_scanned.Goals as goal

pub returns-then-is_lone_star : goal.returns-then-is_lone_star
returns-then-is_lone_star c = search (all_answer, all_buffer, keep_lone)

pub returns-in-Exact : goal.returns-in-Exact
returns-in-Exact c = search (same_answer, same_buffer, keep_exact)

pub returns-in-Escaped : goal.returns-in-Escaped
returns-in-Escaped c = search (same_answer, same_buffer, keep-escaped)

pub returns-in-NonStar : goal.returns-in-NonStar
returns-in-NonStar c = search (same_answer, same_buffer, keep_non_star)

pub returns-in-Star : goal.returns-in-Star
returns-in-Star c = search (same_answer, same_buffer, keep-star)

pub returns-in-All : goal.returns-in-All
returns-in-All c = search (all_answer, all_buffer, keep_all)
