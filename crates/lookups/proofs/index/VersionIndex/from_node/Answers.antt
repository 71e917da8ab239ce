-- `from_node` meets its contract. Assumes nothing.
use mathlib.Core.Path.{refl}
use Rattle.lookups.specs.Lookups.{index_of}
use Rattle.lookups.proofs.index.VersionIndex.from_node.Goals as goal

pub returns : goal.returns
unfolding index_of
returns c = refl
