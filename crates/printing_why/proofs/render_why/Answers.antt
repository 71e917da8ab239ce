-- `render_why` meets its contract. Assumes nothing.
use native.Mathlib.Omega.{arith}
use Rattle.book.specs.Layout.{five}
use Rattle.printing_why.proofs.SplitLines.{raw_is, raw-short}
use Rattle.printing_why.proofs.WhyExits.{no_book-put}
use mathlib.Core.Path.{refl, sym}
use mathlib.Core.Bool.{false}
use Rattle.printing_why.proofs.render_why.Goals as goal

pub put_refused_name-requires : goal.put_refused_name-requires
put_refused_name-requires c = omega (arith, raw-short c.args.line.now _ c.part_before-symbol.ensures _ c.part_before.ensures, c.requires)

pub returns-in-Err : goal.returns-in-Err
returns-in-Err c =
    let a = c.args in
    let held = five a.book.nodes.now a.book.names.now a.book.lines.now a.book.pool.now a.book.journal.now in
    let none = rw c.in-Err.is at c.of.ensures.err in
    no_book-put a.book.counts held false (sym none.1) refl a.out.now a.text.now a.line.now _ c.put_refused_name.new.out
    c.put_refused_name.result (raw_is a.line.now _ c.part_before-symbol.ensures _ c.part_before.ensures)
    (rw (c.number.ensures, none.0) at c.put_refused_name.ensures)
