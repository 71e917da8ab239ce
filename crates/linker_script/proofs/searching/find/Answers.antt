-- `find` meets its contract. The loops' invariant: what is found from i on decides. Assumes nothing.
use Prim.Native.Nat.{◌+◌, ◌≤◌}
use native.Mathlib.Omega.{arith}
use lib.ListN.{length}
use Rattle.linker_script.proofs.Searches.{find_here, find_on, find_none}
use Rattle.linker_script.proofs.Blocks.{has_within, block_here, block_on}
use Rattle.linker_script.proofs.searching.find.Goals as goal

pub block_place-k-requires : goal.block_place-k-requires
block_place-k-requires c = search has_within

pub overflow_add-result : goal.overflow_add-result
overflow_add-result c =
    let inside : c.loop-k.i + 16 ≤ length c.args.s.now = search has_within in
    omega (arith, inside)

pub returns-then-k-lt16 : goal.returns-then-k-lt16
returns-then-k-lt16 c = search block_here

pub overflow_add-i : goal.overflow_add-i
overflow_add-i c =
    let inside : c.loop-k.i + 16 ≤ length c.args.s.now = search has_within in
    omega (arith, inside)

pub loop-k-smaller : goal.loop-k-smaller
loop-k-smaller c =
    let inside : c.loop-k.i + 16 ≤ length c.args.s.now = search has_within in
    omega (arith, inside)

pub loop-k-preserved : goal.loop-k-preserved
loop-k-preserved c = search block_on

pub returns-then-s-j : goal.returns-then-s-j
returns-then-s-j c = search find_here

pub loop-j-preserved : goal.loop-j-preserved
loop-j-preserved c =
    let a = c.args in
    find_on a.s.now a.x a.at _ c.loop-j.invariant c.loop-j-test.true (omega (arith, c.if-s-j.false))

pub returns : goal.returns
returns c = search find_none
