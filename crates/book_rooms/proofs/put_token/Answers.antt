-- `put_token` meets its contract: the part of the pool behind what is there is lent to `store_token`. Assumes nothing.
use native.Mathlib.Omega.{arith}
use Rattle.storing.specs.Keeping.{keep}
use Rattle.book_rooms.proofs.Putting.{put-part, room-length}
use Rattle.book_rooms.proofs.put_token.Goals as goal

pub slice_bounds-store_token-end : goal.slice_bounds-store_token-end
slice_bounds-store_token-end c =
    let a = c.args in
    omega (arith, room-length a.pool.now, c.pool_end-end.ensures)

pub returns : goal.returns
returns c =
    let a = c.args in
    put-part (keep a.edition a.token.now) a.pool.now _ a.at c.pool_end-end.result c.store_token.result
    c.pool_end-end.ensures c.requires c.store_token.ensures
