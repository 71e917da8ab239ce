-- `tell_parts` lends verlist's rooms. How long they are is had by a law, since to compute it is slow. Assumes nothing.
use Prim.Native.Nat.{ℕ}
use mathlib.Core.Path.{◌≡◌, sym}
use native.Mathlib.Omega.{arith}
use lib.ListN.{length, length-replicate, replicate}
use Rattle.printing_listing.specs.Listing.{verlist_room}
use Rattle.why.proofs.tell_parts.Goals as goal

long : (n : ℕ) → length {A = ℕ} (replicate n 0) ≡ n
long n = length-replicate {0} {A = ℕ} n 0

pub slice_bounds-tell_script-end : goal.slice_bounds-tell_script-end
slice_bounds-tell_script-end g c = sym (long _)

pub slice_bounds-tell_script-end-2 : goal.slice_bounds-tell_script-end-2
slice_bounds-tell_script-end-2 g c = sym (long _)

pub slice_bounds-tell_script-end-3 : goal.slice_bounds-tell_script-end-3
slice_bounds-tell_script-end-3 g c = sym (long _)

pub slice_bounds-tell_script-end-4 : goal.slice_bounds-tell_script-end-4
slice_bounds-tell_script-end-4 g c = sym (long _)

pub slice_bounds-tell_script-end-5 : goal.slice_bounds-tell_script-end-5
slice_bounds-tell_script-end-5 g c = sym (long _)

pub tell_script-requires : goal.tell_script-requires
tell_script-requires g c = (omega (arith, long 65536), c.requires)

pub returns : goal.returns
unfolding verlist_room
returns g c = record { ok = c.tell_script.ensures.ok; err = c.tell_script.ensures.err }
