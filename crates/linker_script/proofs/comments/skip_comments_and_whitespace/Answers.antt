-- `skip_comments_and_whitespace` meets its contract. The loop's invariant: the skip from i on decides. Assumes nothing.
use borrow.Author.Rules.{rules}
use Rattle.linker_script.proofs.Skipping.{skip-ends, past_blank, past_line, line-opens, line-fits, line_less, stops, past_comment, comment-opens, comment-fits, comment_less}
use Rattle.linker_script.proofs.comments.skip_comments_and_whitespace.Goals as goal

pub loop-i-preserved-then-is_blank : goal.loop-i-preserved-then-is_blank
loop-i-preserved-then-is_blank c = search past_blank

pub returns-in_default : goal.returns-in_default
returns-in_default c = search line-opens

pub overflow_add-i-then-b-eq35-2 : goal.overflow_add-i-then-b-eq35-2
overflow_add-i-then-b-eq35-2 c = search line-fits

pub loop-i-smaller-then-b-eq35 : goal.loop-i-smaller-then-b-eq35
loop-i-smaller-then-b-eq35 c = search (rules, line_less)

pub loop-i-preserved-then-b-eq35 : goal.loop-i-preserved-then-b-eq35
loop-i-preserved-then-b-eq35 c = search past_line

pub returns-in_default-comment_end : goal.returns-in_default-comment_end
returns-in_default-comment_end c = search (comment-opens _ _ _ _ c.loop-i.invariant)

pub overflow_add-i-then-is_pair : goal.overflow_add-i-then-is_pair
overflow_add-i-then-is_pair c = search comment-fits

pub loop-i-smaller : goal.loop-i-smaller
loop-i-smaller c = search (rules, comment_less)

pub loop-i-preserved : goal.loop-i-preserved
loop-i-preserved c = search past_comment

pub returns-else-is_pair : goal.returns-else-is_pair
returns-else-is_pair c = search stops

pub returns : goal.returns
returns c = search skip-ends
