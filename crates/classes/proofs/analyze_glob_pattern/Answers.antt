-- `analyze_glob_pattern` meets its contract. The loop's invariant: what is left decides. Assumes nothing.
use Rattle.classes.proofs.Scanning.{scan-plain, scan-star, scan-escape, scan_on, scan_end}
use Rattle.classes.proofs.analyze_glob_pattern.Goals as goal

pub loop-i-init : goal.loop-i-init
loop-i-init c = c.plain_blocks-i.ensures

pub loop-i-preserved-then-c-gt93 : goal.loop-i-preserved-then-c-gt93
loop-i-preserved-then-c-gt93 c = search scan-plain

pub returns-then-c-eq42 : goal.returns-then-c-eq42
returns-then-c-eq42 c = scan-star _ _ _ c.loop-i.invariant c.loop-i-test.true c.if-c-eq42.true

pub loop-i-preserved-then-c-eq92 : goal.loop-i-preserved-then-c-eq92
loop-i-preserved-then-c-eq92 c = scan-escape _ _ _ c.loop-i.invariant c.loop-i-test.true _ c.with_byte-class.ensures c.if-c-eq92.true

pub loop-i-preserved : goal.loop-i-preserved
loop-i-preserved c = search scan_on

pub returns : goal.returns
returns c = search scan_end
