-- `pattern_refusal` meets its contract, by the laws of Refusals. Assumes nothing.
use Rattle.pattern_check.proofs.Refusals.{refuses-bytes, refuses_shape}
use Rattle.pattern_check.proofs.pattern_refusal.Goals as goal

pub returns-then-not-is_utf8 : goal.returns-then-not-is_utf8
returns-then-not-is_utf8 c = search refuses-bytes

pub returns : goal.returns
returns c = search refuses_shape
