-- `show_lines` meets its contract. The loop's invariant: the lines before `i` stand. Assumes nothing.
use Rattle.printing_book.proofs.ShownLines.{line-fits, line-lies, line-listed, lines_end, lines_start}
use Rattle.printing_book.proofs.lines.show_lines.Goals as goal

pub loop-i-init : goal.loop-i-init
loop-i-init c = search lines_start

pub line_bytes-bytes-requires : goal.line_bytes-bytes-requires
line_bytes-bytes-requires c = search line-lies

pub put_line-end-requires : goal.put_line-end-requires
put_line-end-requires c = line-fits c.loop-i.invariant c.loop-i-test.true c.line_bytes-bytes.ensures

pub loop-i-preserved : goal.loop-i-preserved
loop-i-preserved c = line-listed c.loop-i.invariant c.loop-i-test.true c.line_bytes-bytes.ensures c.put_line-end.ensures

pub returns : goal.returns
returns c = search lines_end
