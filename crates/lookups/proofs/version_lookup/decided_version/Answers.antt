-- `decided_version` meets its contract, by the laws of Decided. Assumes nothing.
use native.Mathlib.Omega.{arith}
use Rattle.book.specs.Layout.{LineLies}
use Rattle.lookups.proofs.Decided.{decider_node, decider_lies, decider_version}
use Rattle.lookups.proofs.version_lookup.decided_version.Goals as goal

lies : (c : goal.In-Some) → LineLies c.args.lines.now c.args.pool.now c.in-Some.i
lies c = search decider_lies

pub overflow_mul-i : goal.overflow_mul-i
overflow_mul-i c = let r = lies c in omega arith

pub offset_bounds-lines-i : goal.offset_bounds-lines-i
offset_bounds-lines-i c = let r = lies c in omega arith

pub bounds-lines-i : goal.bounds-lines-i
bounds-lines-i c =
    let r : LineLies c.args.lines.now c.args.pool.now c.in-Some.i = search decider_lies in
    omega arith

pub node_version-requires : goal.node_version-requires
node_version-requires c = search decider_node

pub returns-in-Some : goal.returns-in-Some
returns-in-Some c = search decider_version
