-- `sit` lends the rooms that the desk has. How long they are is had by a law, since to compute it is slow. Assumes nothing.
use Prim.Native.Nat.{ℕ}
use mathlib.Core.Path.{◌≡◌, sym}
use lib.ListN.{length, length-replicate, replicate}
use Rattle.trial_desk.proofs.sit.Goals as goal

long : (n : ℕ) → length {A = ℕ} (replicate n 0) ≡ n
long n = length-replicate {0} {A = ℕ} n 0

pub slice_bounds-work-end : goal.slice_bounds-work-end
slice_bounds-work-end g c = sym (long 3072)

pub slice_bounds-work-end-2 : goal.slice_bounds-work-end-2
slice_bounds-work-end-2 g c = sym (long 65536)

pub slice_bounds-work-end-3 : goal.slice_bounds-work-end-3
slice_bounds-work-end-3 g c = sym (long 20480)

pub slice_bounds-work-end-4 : goal.slice_bounds-work-end-4
slice_bounds-work-end-4 g c = sym (long 65536)

pub slice_bounds-work-end-5 : goal.slice_bounds-work-end-5
slice_bounds-work-end-5 g c = sym (long 2048)

pub work-requires : goal.work-requires
work-requires g c = (record { nodes = long 3072; names = long 65536; lines = long 20480; pool = long 65536; journal = long 2048 }, c.requires)

pub returns : goal.returns
returns g c = tt
