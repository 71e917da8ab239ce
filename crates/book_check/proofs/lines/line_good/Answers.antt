-- `line_good` meets its contract. Assumes nothing.
use Prim.Native.Nat.{◌<◌, ◌≤◌}
use native.Mathlib.Omega.{arith}
use Rattle.numbers.specs.Limits.{script_limit}
use Rattle.book_check.proofs.LineChecks.{line_out, line_misplaced, line-barred, line_rest}
use mathlib.Core.Path.{ap}
use mathlib.Core.Bool.{not}
use Rattle.book_check.proofs.lines.line_good.Goals as goal

pub returns-then-not-is_in_range : goal.returns-then-not-is_in_range
returns-then-not-is_in_range c = search line_out

pub returns-then-offset-gt-SCRIPT_LIMIT : goal.returns-then-offset-gt-SCRIPT_LIMIT
returns-then-offset-gt-SCRIPT_LIMIT c =
    let over : script_limit < c.args.offset = omega (arith, c.if-offset-gt-SCRIPT_LIMIT.true) in
    line_misplaced _ _ _ _ _ _ c.is_in_range.ensures (ap not c.if-not-is_in_range.false) over

pub returns-then-not-kind_allows : goal.returns-then-not-kind_allows
returns-then-not-kind_allows c =
    let within : c.args.offset ≤ script_limit = omega (arith, c.if-offset-gt-SCRIPT_LIMIT.false) in
    line-barred _ _ _ _ _ _ c.is_in_range.ensures (ap not c.if-not-is_in_range.false) within _ c.kind_allows.ensures (ap not c.if-not-kind_allows.true)

pub returns : goal.returns
returns c =
    let within : c.args.offset ≤ script_limit = omega (arith, c.if-offset-gt-SCRIPT_LIMIT.false) in
    line_rest _ _ _ _ _ _ c.is_in_range.ensures (ap not c.if-not-is_in_range.false) within _ c.kind_allows.ensures
    _ _ (ap not c.if-not-kind_allows.false) c.edition_of.ensures c.content_good.ensures
