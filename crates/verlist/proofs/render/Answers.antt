-- `render` lends 01's room. How long the arrays are is had by a law, since to compute it is slow. Assumes nothing.
use Prim.Native.Nat.{ℕ}
use mathlib.Core.Path.{◌≡◌, sym}
use lib.ListN.{length, length-replicate, replicate}
use Rattle.printing_listing.specs.Listing.{verlist_room}
use Rattle.verlist.proofs.render.Goals as goal

long : (n : ℕ) → length {A = ℕ} (replicate n 0) ≡ n
long n = length-replicate {0} {A = ℕ} n 0

pub slice_bounds-render_listing-end : goal.slice_bounds-render_listing-end
slice_bounds-render_listing-end c = sym (long 3072)

pub slice_bounds-render_listing-end-2 : goal.slice_bounds-render_listing-end-2
slice_bounds-render_listing-end-2 c = sym (long 65536)

pub slice_bounds-render_listing-end-3 : goal.slice_bounds-render_listing-end-3
slice_bounds-render_listing-end-3 c = sym (long 10240)

pub slice_bounds-render_listing-end-4 : goal.slice_bounds-render_listing-end-4
slice_bounds-render_listing-end-4 c = sym (long 65536)

pub slice_bounds-render_listing-end-5 : goal.slice_bounds-render_listing-end-5
slice_bounds-render_listing-end-5 c = sym (long 2)

pub render_listing-requires : goal.render_listing-requires
render_listing-requires c = tt

pub returns : goal.returns
unfolding verlist_room
returns c = (c.render_listing.ensures.0, c.render_listing.ensures.1)
