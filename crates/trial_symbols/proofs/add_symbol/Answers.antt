-- `add_symbol` meets its contract, by the laws of AskedSymbol. Assumes nothing.
use native.Mathlib.Omega.{arith}
use Rattle.book.specs.Layout.{five}
use Rattle.trial_symbols.proofs.AskedSymbol.{Listed, lines-asks, symbol-added, symbol-kind, symbol-listed, symbol-long, symbol-no_book}
use mathlib.Core.Path.{ap}
use mathlib.Core.Bool.{not}
use Rattle.trial_symbols.proofs.add_symbol.Goals as goal

pub returns-then-not-is_book : goal.returns-then-not-is_book
returns-then-not-is_book c = symbol-no_book _ _ _ c.is_book.ensures _ _ (ap not c.if-not-is_book.true)

pub returns-then-c-ne-EXPORT : goal.returns-then-c-ne-EXPORT
returns-then-c-ne-EXPORT c = symbol-kind _ _ _ c.is_book.ensures (ap not c.if-not-is_book.false) _ _ c.if-c-ne-EXPORT.true

pub returns-then-text-gt-TOKEN_LIMIT : goal.returns-then-text-gt-TOKEN_LIMIT
returns-then-text-gt-TOKEN_LIMIT c =
    let listed : Listed c.args.c (let a = c.args in five a.nodes.now a.names.now a.lines.now a.pool.now a.journal.now) = symbol-listed _ _ _ c.is_book.ensures (ap not c.if-not-is_book.false) c.if-c-ne-EXPORT.false in
    symbol-long listed c.args.text.now _ (omega (arith, c.if-text-gt-TOKEN_LIMIT.true))

pub add_lines-requires : goal.add_lines-requires
add_lines-requires c =
    let listed : Listed c.args.c (let a = c.args in five a.nodes.now a.names.now a.lines.now a.pool.now a.journal.now) = symbol-listed _ _ _ c.is_book.ensures (ap not c.if-not-is_book.false) c.if-c-ne-EXPORT.false in
    lines-asks listed

pub returns : goal.returns
returns c =
    let listed : Listed c.args.c (let a = c.args in five a.nodes.now a.names.now a.lines.now a.pool.now a.journal.now) = symbol-listed _ _ _ c.is_book.ensures (ap not c.if-not-is_book.false) c.if-c-ne-EXPORT.false in
    symbol-added listed c.args.text.now _ (omega (arith, c.if-text-gt-TOKEN_LIMIT.false))
    _ c.place_of.ensures _ _ c.add_lines.ensures
