-- `put_line` meets its contract. Assumes nothing.
use native.Mathlib.Omega.{arith}
use Rattle.book.specs.Books.{with_offset}
use Rattle.book.specs.Layout.{line_of}
use Rattle.printing.proofs.Digits.{few-digits}
use Rattle.printing_book.proofs.Fields.{few-fields, line-put}
use Rattle.printing_book.proofs.lines.put_line.Goals as goal

pub put_fields-b-requires : goal.put_fields-b-requires
put_fields-b-requires c =
    let a = c.args in
    let f = few-digits a.line in
    (omega arith, c.requires.1)

pub put_text-c-requires : goal.put_text-c-requires
put_text-c-requires c =
    let a = c.args in
    let f = few-digits a.line in
    let g = few-fields (with_offset a.offset (line_of a.node a.code a.bytes.now)) in
    omega (arith, c.requires.0)

pub put_text-d-requires : goal.put_text-d-requires
put_text-d-requires c =
    let a = c.args in
    let f = few-digits a.line in
    let g = few-fields (with_offset a.offset (line_of a.node a.code a.bytes.now)) in
    omega (arith, c.requires.0)

pub put_text-requires : goal.put_text-requires
put_text-requires c =
    let a = c.args in
    let f = few-digits a.line in
    let g = few-fields (with_offset a.offset (line_of a.node a.code a.bytes.now)) in
    omega (arith, c.requires.0)

pub returns : goal.returns
returns c =
    let a = c.args in
    let p = c.put_number-a in
    let q = c.put_fields-b in
    let s = c.put_text-c in
    let t = c.put_text-d in
    let u = c.put_text in
    line-put a.out.now a.at (with_offset a.offset (line_of a.node a.code a.bytes.now)) a.line c.requires.0
    p.ensures q.ensures s.ensures t.ensures u.ensures
