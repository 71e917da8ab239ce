-- `bracket_takes` meets its contract. Assumes nothing.
use Prim.Native.Nat.{◌+◌, ◌≤◌}
use native.Mathlib.Omega.{arith}
use lib.ListN.{length}
use Rattle.pattern.proofs.BracketExits.{bracket_tells, bracket-fits}
use Rattle.pattern.proofs.bracket.bracket_takes.Goals as goal

pub overflow_add-end : goal.overflow_add-end
overflow_add-end c =
    let lies : c.mark_at-from.result + c.between_length.result ≤ length c.args.rest.now = search bracket-fits in
    omega (arith, lies)

pub slice_bounds-has_member-end : goal.slice_bounds-has_member-end
slice_bounds-has_member-end c = search bracket-fits

pub returns : goal.returns
returns c = search bracket_tells
