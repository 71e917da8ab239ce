-- `trimmed_length` meets its contract. The loop's invariant: the first k bytes are left. Assumes nothing.
use Rattle.linker_script.proofs.Trimming.{Kept}
use Rattle.linker_script.proofs.trimmed_length.Given as goal

abbrev pub invariant-loop-k : goal.invariant-loop-k
invariant-loop-k l = Kept l.s l.k
