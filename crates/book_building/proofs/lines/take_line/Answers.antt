-- `take_line` meets its contract: the token is refused, no row is left, or the line is there. Assumes nothing.
use native.Mathlib.Omega.{arith}
use Prim.Native.Nat.{◌-◌, ◌*◌}
use mathlib.Core.List.{[]}
use mathlib.Core.Path.{◌≡◌, sym, ◌∙◌}
use borrow.Author.Tests.{not-true, not-false}
use lib.Seq.{paste}
use Rattle.book.specs.Books.{offset_at}
use Rattle.book.specs.Layout.{line_width, row_of_line, standing_code}
use Rattle.book_rooms.proofs.Putting.{room_limit}
use Rattle.book_rooms.proofs.Rows.{row_number, row_within}
use Rattle.book_building.proofs.LineEvents.{line-added, line-ends, line_refused, line_rowless}
use Rattle.classes.proofs.ClassNumbers.{class-few}
use mathlib.Core.Path.{ap}
use mathlib.Core.Bool.{not}
use Rattle.book_building.proofs.lines.take_line.Goals as goal

pub returns-then-not-has_row : goal.returns-then-not-has_row
returns-then-not-has_row c =
    let a = c.args in
    line_rowless a.g a.p a.section a.language a.token.now a.lines.now a.pool.now
    c.edition_of.result c.edition_of.ensures c.put_token.result _
    c.requires.0 c.put_token.ensures
    _ [] [] c.in-Ok.is (sym c.has_row.ensures ∙ not-true _ (ap not c.if-not-has_row.true))

pub code_of-code-requires : goal.code_of-code-requires
code_of-code-requires c =
    let p = c.requires in
    (omega (arith, c.class_number-k.ensures, class-few c.in-Ok.stored.class), omega (arith, p.3), omega (arith, p.4))

pub overflow_cast-at : goal.overflow_cast-at
overflow_cast-at c =
    let a = c.args in
    omega (arith, room_limit a.pool.now)

pub overflow_cast-size : goal.overflow_cast-size
overflow_cast-size c =
    let a = c.args in
    omega (
      arith,
      line-ends a.g a.p a.section a.language a.token.now a.lines.now a.pool.now
          c.edition_of.result c.edition_of.ensures c.put_token.result _
          c.requires.0 c.put_token.ensures
          _ c.in-Ok.is,
    )

pub put_line-requires : goal.put_line-requires
put_line-requires c =
    let a = c.args in
    let r = row_within a.lines.now a.g.lines (sym c.has_row.ensures ∙ not-false _ (ap not c.if-not-has_row.false)) in
    omega arith

pub overflow_add-result : goal.overflow_add-result
overflow_add-result c =
    let a = c.args in
    let r = row_number a.lines.now a.g.lines (sym c.has_row.ensures ∙ not-false _ (ap not c.if-not-has_row.false)) in
    omega arith

pub overflow_add-result-in-Ok : goal.overflow_add-result-in-Ok
overflow_add-result-in-Ok c =
    let a = c.args in
    omega (
      arith,
      line-ends a.g a.p a.section a.language a.token.now a.lines.now a.pool.now
          c.edition_of.result c.edition_of.ensures c.put_token.result _
          c.requires.0 c.put_token.ensures
          _ c.in-Ok.is,
    )

pub returns-in-Err : goal.returns-in-Err
returns-in-Err c =
    let a = c.args in
    line_refused a.g a.p a.section a.language a.token.now a.lines.now a.pool.now
    c.edition_of.result c.edition_of.ensures c.put_token.result _
    c.requires.0 c.put_token.ensures _ _ [] [] c.in-Err.is c.number.ensures

pub returns-else-not-has_row : goal.returns-else-not-has_row
returns-else-not-has_row c =
    let coded : let a = c.args in c.code_of-code.result ≡ standing_code c.class_number-k.result a.section a.language = c.code_of-code.ensures in
    let placed : let a = c.args in
    c.put_line.new.lines
    ≡ paste a.lines.now (line_width * a.g.lines)
    (row_of_line (a.g.nodes - 1) c.code_of-code.result a.g.pool c.in-Ok.stored.size (offset_at a.p))
    line_width = c.put_line.ensures in
    let a = c.args in
    line-added a.g a.p a.section a.language a.token.now a.lines.now a.pool.now
    c.edition_of.result c.edition_of.ensures c.put_token.result _
    c.requires.0 c.put_token.ensures
    _ _ _ _ _ _ c.in-Ok.is (sym c.has_row.ensures ∙ not-false _ (ap not c.if-not-has_row.false)) (omega arith)
    (omega arith) c.requires.5
    c.class_number-k.ensures
    coded c.mixed_behind-mixed.ensures c.starred_behind-starred.ensures
    placed
