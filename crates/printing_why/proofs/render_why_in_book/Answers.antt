-- `render_why_in_book` meets its contract: behind its calls stand the raw name, the demangled one, and the version that is wanted. Assumes nothing.
use mathlib.Core.Path.{◌≡◌, ap, ◌∙◌}
use native.Mathlib.Omega.{arith}
use Rattle.book.specs.Layout.{five}
use Rattle.book.specs.View.{view}
use Rattle.lookups.specs.Lookups.{bytes_of}
use Rattle.lookups.proofs.Asked.{as_told}
use Rattle.input.specs.Splitting.{demangled_part}
use Rattle.printing_why.specs.Splits.{raw_name, version_for}
use Rattle.printing_why.proofs.SplitLines.{demangled-told, raw_is, raw-short, split-put, version-told}
use Rattle.printing_why.proofs.render_why_in_book.Goals as goal

pub ask_why-requires : goal.ask_why-requires
ask_why-requires c =
    omega (arith, raw-short (c.args.line.now) _ c.part_before-symbol.ensures _ c.part_before-raw.ensures, c.requires)

-- ---- the exit
pub returns : goal.returns
returns c =
    let named : c.part_before-raw.result.now ≡ raw_name (c.args.line.now) = raw_is (c.args.line.now) _ c.part_before-symbol.ensures _ c.part_before-raw.ensures in
    let demangled : c.part_before-raw.result.now ≡ raw_name (c.args.line.now)
    → c.demangled_of-demangled.result.now ≡ demangled_part (c.args.line.now) = λ e. demangled-told (c.args.line.now) _ c.part_before-symbol.ensures _ e _ c.demangled_of-demangled.ensures in
    let versioned : bytes_of c.then_some.result ≡ version_for (view c.args.book.lent.counts (five c.args.book.lent.nodes.now c.args.book.lent.names.now c.args.book.lent.lines.now c.args.book.lent.pool.now c.args.book.lent.journal.now)) (c.args.line.now) =
    ap bytes_of c.then_some.ensures ∙ as_told _ _ ∙ version-told (c.args.line.now) _ c.part_before-symbol.ensures _ c.part_before-raw.ensures c.args.book.lent.counts (five c.args.book.lent.nodes.now c.args.book.lent.names.now c.args.book.lent.lines.now c.args.book.lent.pool.now c.args.book.lent.journal.now) c.args.book.holds
    _ c.has_version-has_wanted.ensures _ c.part_behind.ensures in
    let e = named in
    split-put c.args.out.now c.args.text.now (c.args.line.now) (view c.args.book.lent.counts (five c.args.book.lent.nodes.now c.args.book.lent.names.now c.args.book.lent.lines.now c.args.book.lent.pool.now c.args.book.lent.journal.now)) e (demangled e) versioned c.ask_why.ensures
