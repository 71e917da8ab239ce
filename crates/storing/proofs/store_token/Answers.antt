-- `store_token` meets its contract. Assumes nothing.
use Rattle.storing.specs.Answers.{keep_answer, keep_buffer}
use Rattle.storing.proofs.Answers.{same_answer, same_buffer}
use Rattle.storing.proofs.Keeping.{keep-over, keep-quoted, keep-unquoted}
use Rattle.classes.proofs.Scanning.{quoted_some, quoted_inner}
use Rattle.storing.proofs.store_token.Goals as goal

pub returns-then-token-gt-TOKEN_LIMIT : goal.returns-then-token-gt-TOKEN_LIMIT
unfolding keep_answer keep_buffer
returns-then-token-gt-TOKEN_LIMIT c = search keep-over

pub overflow_sub-end : goal.overflow_sub-end
overflow_sub-end c = search quoted_some

pub slice_bounds-store_exact-count : goal.slice_bounds-store_exact-count
slice_bounds-store_exact-count c = search quoted_inner

pub slice_bounds-store_exact-start : goal.slice_bounds-store_exact-start
slice_bounds-store_exact-start c = search quoted_inner

pub returns-then-is_quoted : goal.returns-then-is_quoted
returns-then-is_quoted c = search (same_answer, same_buffer, keep-quoted)

pub returns : goal.returns
returns c = search (same_answer, same_buffer, keep-unquoted)
