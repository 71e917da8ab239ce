-- `line_reason` meets its contract. Assumes nothing.
use Rattle.reasons.proofs.telling.line_reason.Goals as goal

pub returns : goal.returns
returns c = rw (← c.class_of.ensures, ← c.section_of.ensures, ← c.language_of.ensures)
