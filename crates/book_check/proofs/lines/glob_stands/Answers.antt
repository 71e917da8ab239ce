-- `glob_stands` meets its contract: what is not refused is asked further, and then what is told is whether storing leaves it. Assumes nothing.
use mathlib.Core.Path.{◌≡◌, ap, ◌∙◌}
use Rattle.std.specs.Result.{is_ok}
use Rattle.pattern.specs.Patterns.{refusal}
use Rattle.book_check.proofs.LineChecks.{glob-refused, glob-taken}
use Rattle.book_check.proofs.lines.glob_stands.Goals as goal

pub returns-then-is_ok : goal.returns-then-is_ok
returns-then-is_ok c =
    let asked : c.is_ok.result ≡ is_ok (refusal c.args.edition c.args.glob.now) = c.is_ok.ensures.value ∙ ap is_ok c.pattern_refusal.ensures in
    glob-taken _ _ _ asked _ c.if-is_ok.true c.is_as_stored.ensures

pub returns-else-is_ok : goal.returns-else-is_ok
returns-else-is_ok c =
    let asked : c.is_ok.result ≡ is_ok (refusal c.args.edition c.args.glob.now) = c.is_ok.ensures.value ∙ ap is_ok c.pattern_refusal.ensures in
    glob-refused _ _ _ asked c.if-is_ok.false
