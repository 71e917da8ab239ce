-- `shape_refusal` meets its contract, by the laws of Refusals. The loop's invariant: what is left decides. Assumes nothing.
use Rattle.utf8.proofs.Ascii.{walk-within}
use Rattle.pattern_check.proofs.Refusals.{walk_less, walk-one, walk-open, walk-bracket, bracket_less, walk_ends}
use Rattle.pattern_check.proofs.shape_refusal.Goals as goal

pub loop-at-smaller-then-f-ne91 : goal.loop-at-smaller-then-f-ne91
loop-at-smaller-then-f-ne91 c = search walk_less

pub loop-at-preserved-then-f-ne91 : goal.loop-at-preserved-then-f-ne91
loop-at-preserved-then-f-ne91 c = search walk-one

pub closing_of-requires : goal.closing_of-requires
closing_of-requires c = search walk-within

pub loop-at-smaller : goal.loop-at-smaller
loop-at-smaller c = search bracket_less

pub loop-at-preserved : goal.loop-at-preserved
loop-at-preserved c = search walk-bracket

pub returns-in_default : goal.returns-in_default
returns-in_default c = search walk-open

pub returns : goal.returns
returns c = search walk_ends
