-- `is_in_range` meets its contract. Assumes nothing.
use Prim.Native.Nat.{◌≤◌, ◌<◌}
use mathlib.Core.Path.{◌≡◌}
use native.Mathlib.Omega.{arith}
use lib.ListN.{length}
use Rattle.numbers.specs.Classes.{all_class}
use Rattle.numbers.specs.Limits.{token_limit}
use Rattle.book_check.proofs.LineChecks.{range-node, range-mark, range_size, range_good, range_all, range-class}
use Rattle.book_check.proofs.lines.is_in_range.Goals as goal

pub returns-then-nodes-node : goal.returns-then-nodes-node
returns-then-nodes-node c = range-node _ _ _ _ (omega (arith, c.if-nodes-node.true))

pub returns-then-code-ge64 : goal.returns-then-code-ge64
returns-then-code-ge64 c = range-mark _ _ _ _ (omega (arith, c.if-code-ge64.true))

pub returns-then-size-gt-TOKEN_LIMIT : goal.returns-then-size-gt-TOKEN_LIMIT
returns-then-size-gt-TOKEN_LIMIT c = range_size _ _ _ _ (omega (arith, c.if-size-gt-TOKEN_LIMIT.true))

pub returns-then-class-lt-ALL_CLASS : goal.returns-then-class-lt-ALL_CLASS
returns-then-class-lt-ALL_CLASS c =
    let node-there : c.args.node < c.args.nodes = omega (arith, c.if-nodes-node.false) in
    let one-mark : c.args.code < 64 = omega (arith, c.if-code-ge64.false) in
    let few_bytes : length c.args.bytes.now ≤ token_limit = omega (arith, c.if-size-gt-TOKEN_LIMIT.false) in
    let below_all : c.class_of-class.result < all_class = omega (arith, c.if-class-lt-ALL_CLASS.true) in
    range_good _ _ _ _ _ c.class_of-class.ensures node-there one-mark few_bytes below_all

pub returns-then-class-eq-ALL_CLASS : goal.returns-then-class-eq-ALL_CLASS
returns-then-class-eq-ALL_CLASS c =
    let node-there : c.args.node < c.args.nodes = omega (arith, c.if-nodes-node.false) in
    let one-mark : c.args.code < 64 = omega (arith, c.if-code-ge64.false) in
    let few_bytes : length c.args.bytes.now ≤ token_limit = omega (arith, c.if-size-gt-TOKEN_LIMIT.false) in
    let at_all : c.class_of-class.result ≡ all_class = omega (arith, c.if-class-eq-ALL_CLASS.true) in
    range_all _ _ _ _ _ c.class_of-class.ensures node-there one-mark few_bytes at_all

pub returns : goal.returns
returns c =
    range-class _ _ _ _ _ c.class_of-class.ensures (omega (arith, c.if-class-lt-ALL_CLASS.false)) (λ e. omega (arith, c.if-class-eq-ALL_CLASS.false))
