-- `tell_script` meets its contract: a script that is refused prints the number, and behind one that is opened the symbols are told. Assumes nothing.
use native.Mathlib.Omega.{arith}
use Rattle.std.proofs.lemmas.Result.{IfOk-weaker, on_err_weaker}
use Rattle.book.specs.Layout.{five}
use Rattle.printing_listing.proofs.Scripts.{script-held}
use Rattle.why.proofs.Scripts.{opened-stops, opened-told, refused-stops, refused-told}
use Rattle.why.proofs.tell_script.Goals as goal

pub returns-then-opened-ne0 : goal.returns-then-opened-ne0
returns-then-opened-ne0 g c =
    let a = c.args in
    let w = c.open-opened in
    let b = five a.nodes.now a.names.now a.lines.now a.pool.now a.journal.now in
    record {
      ok = IfOk-weaker _ _ _
          (λ n. refused-told b a.text.now w.result w.ensures.0 a.symbols.now a.out.now (omega (arith, c.if-opened-ne0.true))) c.refuse.ensures.ok;
      err = on_err_weaker _
          (refused-stops b a.text.now w.result w.ensures.0 a.symbols.now a.out.now (omega (arith, c.if-opened-ne0.true))) c.refuse.ensures.err;
    }

pub tell_symbols-requires : goal.tell_symbols-requires
tell_symbols-requires g c =
    let a = c.args in
    let w = c.open-opened in
    (omega (arith, c.requires.0), c.requires.1)

pub invariant_of-tell_symbols : goal.invariant_of-tell_symbols
invariant_of-tell_symbols g c =
    let a = c.args in
    let w = c.open-opened in
    record {
      holds = script-held (five a.nodes.now a.names.now a.lines.now a.pool.now a.journal.now) a.text.now w.result w.ensures.0
          (omega (arith, c.if-opened-ne0.false)) _ w.ensures.1;
    }

pub returns : goal.returns
returns g c =
    let a = c.args in
    let w = c.open-opened in
    let b = five a.nodes.now a.names.now a.lines.now a.pool.now a.journal.now in
    record {
      ok = IfOk-weaker _ _ _
          (λ n. opened-told b a.text.now w.result w.ensures.0 a.symbols.now a.out.now (omega (arith, c.if-opened-ne0.false)) _ w.ensures.1)
          c.tell_symbols.ensures.ok;
      err = on_err_weaker _
          (opened-stops b a.text.now w.result w.ensures.0 a.symbols.now a.out.now (omega (arith, c.if-opened-ne0.false)) _ w.ensures.1)
          c.tell_symbols.ensures.err;
    }
