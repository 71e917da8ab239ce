-- `is_plain` meets its contract. The loop's invariant: what is left from i on decides. Assumes nothing.
use Rattle.storing.proofs.Plain.{Plain}
use Rattle.storing.proofs.runs.is_plain.Given as goal

abbrev pub invariant-loop-c : goal.invariant-loop-c
invariant-loop-c l = Plain l.token l.before l.c-index
