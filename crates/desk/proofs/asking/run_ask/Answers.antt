-- `run_ask` meets its contract: behind its calls stand the raw name, the demangled one, and the version that is wanted. Assumes nothing.
use mathlib.Core.Path.{◌≡◌, ap, ◌∙◌}
use Rattle.book.specs.Layout.{five}
use Rattle.lookups.specs.Lookups.{bytes_of}
use Rattle.lookups.proofs.Asked.{as_told}
use Rattle.input.specs.Splitting.{demangled_part}
use Rattle.printing_why.specs.Splits.{raw_name}
use Rattle.printing_why.proofs.SplitLines.{demangled-told, raw_is, version_wanted}
use Rattle.desk.proofs.AskExits.{list-asked, part_room, script-asked}
use Rattle.desk.proofs.asking.run_ask.Goals as goal

pub ask_member-requires : goal.ask_member-requires
ask_member-requires c = part_room _ _ _ c.args.out.now _ _ c.part_before-symbol.ensures c.part_before-raw.ensures c.requires

pub returns-then-c-eq-EXPORT : goal.returns-then-c-eq-EXPORT
returns-then-c-eq-EXPORT c =
    let named : c.part_before-raw.result.now ≡ raw_name (c.args.t.now) = raw_is (c.args.t.now) _ c.part_before-symbol.ensures _ c.part_before-raw.ensures in
    let demangled : c.part_before-raw.result.now ≡ raw_name (c.args.t.now)
    → c.demangled_of-demangled.result.now ≡ demangled_part (c.args.t.now) = λ e. demangled-told (c.args.t.now) _ c.part_before-symbol.ensures _ e _ c.demangled_of-demangled.ensures in
    list-asked c.args.book.counts (five c.args.book.nodes.now c.args.book.names.now c.args.book.lines.now c.args.book.pool.now c.args.book.journal.now) (c.args.t.now) c.args.out.now _ c.ask_member.result _ c.printed.ensures
    named (demangled named) c.if-c-eq-EXPORT.true c.ask_member.ensures

pub ask_version-requires : goal.ask_version-requires
ask_version-requires c = part_room _ _ _ c.args.out.now _ _ c.part_before-symbol.ensures c.part_before-raw.ensures c.requires

pub returns : goal.returns
returns c =
    let named : c.part_before-raw.result.now ≡ raw_name (c.args.t.now) = raw_is (c.args.t.now) _ c.part_before-symbol.ensures _ c.part_before-raw.ensures in
    let demangled : c.part_before-raw.result.now ≡ raw_name (c.args.t.now)
    → c.demangled_of-demangled.result.now ≡ demangled_part (c.args.t.now) = λ e. demangled-told (c.args.t.now) _ c.part_before-symbol.ensures _ e _ c.demangled_of-demangled.ensures in
    script-asked c.args.book.counts (five c.args.book.nodes.now c.args.book.names.now c.args.book.lines.now c.args.book.pool.now c.args.book.journal.now) (c.args.t.now) c.args.out.now _ c.ask_version.result _ c.printed-2.ensures
    named (demangled named) c.if-c-eq-EXPORT.false
    (ap bytes_of c.then_some-wanted.ensures ∙ as_told _ _ ∙ version_wanted (c.args.t.now) _ c.part_before-symbol.ensures _ c.part_before-raw.ensures _ c.part_behind.ensures)
    c.ask_version.ensures
