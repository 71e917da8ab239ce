-- `counts_of` meets its contract. Assumes nothing.
use Rattle.c_lending.proofs.Lending.{other_counts, six_counts}
use Rattle.c_lending.proofs.counts_of.Goals as goal

pub returns-then-counts-ne-COUNTS : goal.returns-then-counts-ne-COUNTS
returns-then-counts-ne-COUNTS c = search other_counts

pub returns : goal.returns
returns c = six_counts c.args.counts.now c.if-counts-ne-COUNTS.false
