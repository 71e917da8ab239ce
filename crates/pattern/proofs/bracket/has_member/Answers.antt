-- `has_member` meets its contract. The loop's invariant: the members that are left decide. Assumes nothing.
use Rattle.pattern.proofs.BracketExits.{members_end, members_found, members_again}
use Rattle.pattern.proofs.bracket.has_member.Goals as goal

pub returns-then-m : goal.returns-then-m
returns-then-m c = search members_found

pub loop-at-preserved : goal.loop-at-preserved
loop-at-preserved c = search members_again

pub returns : goal.returns
returns c = search members_end
