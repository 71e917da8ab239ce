-- `last_close` meets its contract. The loop's invariant: no `};` ends at i or behind it. Assumes nothing.
use Rattle.linker_script.proofs.Searches.{Behind}
use Rattle.linker_script.proofs.last_close.Given as goal

abbrev pub invariant-loop-i : goal.invariant-loop-i
invariant-loop-i l = Behind l.s l.i
