-- `rank_of` meets its contract. Assumes nothing.
use Prim.Native.Nat.{ℕ, ◌-◌, ◌*◌}
use mathlib.Core.Path.{ap}
use mathlib.Core.List.{[]}
use native.Mathlib.Omega.{arith}
use Rattle.numbers.specs.Classes.{nonstar_class}
use Rattle.book.specs.Layout.{line_of}
use Rattle.ranking.proofs.Stages.{rank_exact, rank-glob, span_fits}
use Rattle.ranking.proofs.rank_of.Goals as goal

pub returns-then-class-le-ESCAPED_CLASS : goal.returns-then-class-le-ESCAPED_CLASS
returns-then-class-le-ESCAPED_CLASS c = let a = c.args in omega (arith, rank_exact a.n (line_of a.node a.code []) (omega arith))

pub overflow_mul-result-4 : goal.overflow_mul-result-4
overflow_mul-result-4 c = omega (arith, span_fits c.args.n (c.class_of-class.result - 2) (omega arith) (omega arith))

pub overflow_add-result-2 : goal.overflow_add-result-2
overflow_add-result-2 c = omega (arith, span_fits c.args.n (c.class_of-class.result - 2) (omega arith) (omega arith))

pub overflow_add-result-3 : goal.overflow_add-result-3
overflow_add-result-3 c = omega (arith, span_fits c.args.n (c.class_of-class.result - 2) (omega arith) (omega arith))

pub overflow_add-result-4 : goal.overflow_add-result-4
overflow_add-result-4 c = omega (arith, span_fits c.args.n (c.class_of-class.result - 2) (omega arith) (omega arith))

pub returns : goal.returns
returns c =
    let a = c.args in
    omega (arith, rank-glob a.n (line_of a.node a.code []) (omega arith), ap (λ (k : ℕ). 2 * a.n * (k - nonstar_class)) c.class_of-class.ensures)
