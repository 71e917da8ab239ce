-- `output_room` is as long as it says: by a law, since to compute the length needs more stack than there is. Assumes nothing.
use Prim.Native.Nat.{ℕ}
use mathlib.Core.Path.{sym}
use lib.ListN.{length-replicate}
use Rattle.replay_verlist.proofs.output_room.Goals as goal

pub returns : goal.returns
returns c = sym (length-replicate {0} {A = ℕ} 983104 0)
