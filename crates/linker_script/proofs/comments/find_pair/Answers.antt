-- `find_pair` meets its contract. The loop's invariant: what is found from i on decides. Assumes nothing.
use Rattle.linker_script.proofs.Searches.{pair_here, pair_on, pair_none}
use Rattle.linker_script.proofs.comments.find_pair.Goals as goal

pub returns-then-is_pair : goal.returns-then-is_pair
returns-then-is_pair c = search pair_here

pub loop-i-preserved : goal.loop-i-preserved
loop-i-preserved c = search pair_on

pub returns : goal.returns
returns c = search pair_none
