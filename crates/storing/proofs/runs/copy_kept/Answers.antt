-- `copy_kept` meets its contract. The loop's invariant: the buffer's front holds what is kept of the bytes passed. Assumes nothing.
use Rattle.storing.proofs.Squeezing.{copied_none, copied_less, copied_room, copied_more, copied_long, copied_all, copied_count}
use Rattle.storing.proofs.Plain.{plain_fits, plain-count, plain_copied}
use Rattle.storing.proofs.runs.copy_kept.Goals as goal

pub copy-requires : goal.copy-requires
copy-requires c = search plain_fits

pub returns-then-is_plain : goal.returns-then-is_plain
returns-then-is_plain c = search (plain-count, plain_copied)

pub loop-i-init : goal.loop-i-init
loop-i-init c = search copied_none

pub bounds-out-n : goal.bounds-out-n
bounds-out-n c = search copied_room

pub loop-i-preserved : goal.loop-i-preserved
loop-i-preserved c = search copied_more

pub loop-i-preserved-in_default : goal.loop-i-preserved-in_default
loop-i-preserved-in_default c = search copied_less

pub shape_of-out : goal.shape_of-out
shape_of-out c = search copied_long

pub returns : goal.returns
returns c = search (copied_all, copied_count)
