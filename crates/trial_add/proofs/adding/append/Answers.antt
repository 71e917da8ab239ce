-- `append` meets its contract: no row or no edit is left, the token is refused, or the line is there with its edit. Assumes nothing.
use borrow.Author.Rules.{rules}
use native.Mathlib.Omega.{arith}
use Prim.Native.Nat.{◌+◌, ◌*◌, ◌≤◌}
use mathlib.Core.Path.{◌≡◌, refl, sym, ◌∙◌}
use mathlib.Core.List.{[], ◌∷◌}
use mathlib.Core.Bool.{true}
use lib.Seq.{paste}
use Rattle.numbers.specs.Limits.{pool_limit}
use Rattle.storing.specs.Keeping.{keep}
use Rattle.book.specs.Books.{add}
use Rattle.book.specs.Layout.{counts_with, edit_width, five, line_width, row_of_line, standing_code}
use Rattle.book.specs.View.{book_of}
use Rattle.book.proofs.Views.{Layout, laid-packs}
use Rattle.book_rooms.specs.Rooms.{edit_row, fits_row}
use Rattle.book_rooms.proofs.Rows.{edit_refusal, edit_within, row_number, row_within}
use Rattle.classes.proofs.ClassNumbers.{class-few}
use Rattle.trial_add.proofs.Appending.{append_editless, append-ends, append_made, append-refused, append_rowless, pool-asked}
use Rattle.trial_add.proofs.adding.append.Goals as goal

pub returns-then-not-has_row : goal.returns-then-not-has_row
returns-then-not-has_row c =
    let layout : Layout c.args.c (let a = c.args in five a.nodes.now a.names.now a.lines.now a.pool.now a.journal.now) (book_of c.args.c (let a = c.args in five a.nodes.now a.names.now a.lines.now a.pool.now a.journal.now)) = laid-packs c.args.c (let a = c.args in five a.nodes.now a.names.now a.lines.now a.pool.now a.journal.now) c.requires.0 in
    append_rowless layout _ _ _ _
    _ c.refusal_without_row.ensures (sym c.has_row.ensures ∙ c.if-not-has_row.true)

pub returns-then-not-has_edit : goal.returns-then-not-has_edit
returns-then-not-has_edit c =
    let layout : Layout c.args.c (let a = c.args in five a.nodes.now a.names.now a.lines.now a.pool.now a.journal.now) (book_of c.args.c (let a = c.args in five a.nodes.now a.names.now a.lines.now a.pool.now a.journal.now)) = laid-packs c.args.c (let a = c.args in five a.nodes.now a.names.now a.lines.now a.pool.now a.journal.now) c.requires.0 in
    append_editless layout _ _ _ _
    _ c.refusal_without_row-then-not-has_edit.ensures (sym c.has_edit.ensures ∙ c.if-not-has_edit.true)

pub put_token-requires : goal.put_token-requires
put_token-requires c =
    let layout : Layout c.args.c (let a = c.args in five a.nodes.now a.names.now a.lines.now a.pool.now a.journal.now) (book_of c.args.c (let a = c.args in five a.nodes.now a.names.now a.lines.now a.pool.now a.journal.now)) = laid-packs c.args.c (let a = c.args in five a.nodes.now a.names.now a.lines.now a.pool.now a.journal.now) c.requires.0 in
    pool-asked layout

pub code_of-code-requires : goal.code_of-code-requires
code_of-code-requires c =
    (omega (arith, c.class_number.ensures, class-few c.in-Ok.stored.class), omega (arith, c.requires.2), omega (arith, c.requires.3))

pub overflow_cast-size : goal.overflow_cast-size
overflow_cast-size c =
    let layout : Layout c.args.c (let a = c.args in five a.nodes.now a.names.now a.lines.now a.pool.now a.journal.now) (book_of c.args.c (let a = c.args in five a.nodes.now a.names.now a.lines.now a.pool.now a.journal.now)) = laid-packs c.args.c (let a = c.args in five a.nodes.now a.names.now a.lines.now a.pool.now a.journal.now) c.requires.0 in
    let ends : c.args.c.pool + c.in-Ok.stored.size ≤ pool_limit = append-ends layout (keep c.edition_of.result c.args.token.now)
    c.put_token.result _ c.put_token.ensures _ c.in-Ok.is in
    omega (arith, ends)

pub put_line-requires : goal.put_line-requires
put_line-requires c =
    let row : let a = c.args in fits_row a.lines.now a.c.lines ≡ true = sym c.has_row.ensures ∙ c.if-not-has_row.false in
    let a = c.args in
    omega (arith, row_within a.lines.now a.c.lines row)

pub put_two-requires : goal.put_two-requires
put_two-requires c =
    let edit : let a = c.args in edit_row a.journal.now a.c.edits ≡ true = sym c.has_edit.ensures ∙ c.if-not-has_edit.false in
    let a = c.args in
    omega (arith, edit_within a.journal.now a.c.edits edit)

pub overflow_add-c : goal.overflow_add-c
overflow_add-c c =
    let row : let a = c.args in fits_row a.lines.now a.c.lines ≡ true = sym c.has_row.ensures ∙ c.if-not-has_row.false in
    let a = c.args in
    omega (arith, row_number a.lines.now a.c.lines row)

pub overflow_add-c-in-Ok : goal.overflow_add-c-in-Ok
overflow_add-c-in-Ok c =
    let layout : Layout c.args.c (let a = c.args in five a.nodes.now a.names.now a.lines.now a.pool.now a.journal.now) (book_of c.args.c (let a = c.args in five a.nodes.now a.names.now a.lines.now a.pool.now a.journal.now)) = laid-packs c.args.c (let a = c.args in five a.nodes.now a.names.now a.lines.now a.pool.now a.journal.now) c.requires.0 in
    let ends : c.args.c.pool + c.in-Ok.stored.size ≤ pool_limit = append-ends layout (keep c.edition_of.result c.args.token.now)
    c.put_token.result _ c.put_token.ensures _ c.in-Ok.is in
    omega (arith, ends)

pub overflow_add-c-in-Ok-2 : goal.overflow_add-c-in-Ok-2
overflow_add-c-in-Ok-2 c =
    let edit : let a = c.args in edit_row a.journal.now a.c.edits ≡ true = sym c.has_edit.ensures ∙ c.if-not-has_edit.false in
    let a = c.args in
    omega (arith, edit_refusal a.journal.now a.c.edits edit)

pub returns-in-Err : goal.returns-in-Err
returns-in-Err c =
    let layout : Layout c.args.c (let a = c.args in five a.nodes.now a.names.now a.lines.now a.pool.now a.journal.now) (book_of c.args.c (let a = c.args in five a.nodes.now a.names.now a.lines.now a.pool.now a.journal.now)) = laid-packs c.args.c (let a = c.args in five a.nodes.now a.names.now a.lines.now a.pool.now a.journal.now) c.requires.0 in
    append-refused layout _ _ _ _
    c.edition_of.result c.edition_of.ensures c.put_token.result _ c.put_token.ensures _
    c.in-Err.is _ c.number.ensures

pub shape_of-pool-in-Ok : goal.shape_of-pool-in-Ok
shape_of-pool-in-Ok c =
    let p = c.pool-1 in
    search rules

pub returns-in-Ok : goal.returns-in-Ok
returns-in-Ok c =
    let layout : Layout c.args.c (let a = c.args in five a.nodes.now a.names.now a.lines.now a.pool.now a.journal.now) (book_of c.args.c (let a = c.args in five a.nodes.now a.names.now a.lines.now a.pool.now a.journal.now)) = laid-packs c.args.c (let a = c.args in five a.nodes.now a.names.now a.lines.now a.pool.now a.journal.now) c.requires.0 in
    let row : let a = c.args in fits_row a.lines.now a.c.lines ≡ true = sym c.has_row.ensures ∙ c.if-not-has_row.false in
    let edit : let a = c.args in edit_row a.journal.now a.c.edits ≡ true = sym c.has_edit.ensures ∙ c.if-not-has_edit.false in
    let coded : let a = c.args in c.code_of-code.result ≡ standing_code c.class_number.result a.section a.language = c.code_of-code.ensures in
    let placed : let a = c.args in
    c.put_line.new.lines
    ≡ paste a.lines.now (line_width * a.c.lines) (row_of_line a.node c.code_of-code.result a.c.pool c.in-Ok.stored.size 0) line_width = c.put_line.ensures in
    let noted : let a = c.args in
    c.put_two.new.rows ≡ paste a.journal.now (edit_width * a.c.edits) (add ∷ a.c.lines ∷ []) edit_width = c.put_two.ensures in
    let counted : let b = c.args.c in
    c.counts_with.result ≡ counts_with b (b.lines + 1) (b.pool + c.in-Ok.stored.size) (b.edits + 1) = c.counts_with.ensures in
    append_made layout _ _ _ _
    c.edition_of.result c.edition_of.ensures c.put_token.result _ c.put_token.ensures
    row edit _ _ _ _ _ _
    c.in-Ok.is refl c.class_number.ensures coded placed noted _ counted
