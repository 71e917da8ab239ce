-- `comment_end` meets its contract. Assumes nothing.
use Rattle.linker_script.proofs.Skipping.{comment-from}
use Rattle.linker_script.proofs.comments.comment_end.Goals as goal

pub returns : goal.returns
returns c = search comment-from
