-- `trim_ascii_end` meets its contract. Assumes nothing.
use borrow.Author.Rules.{rules}
use lib.Seq.{length-take-le}
use Rattle.linker_script.proofs.trim_ascii_end.Goals as goal

pub slice_bounds-result-end : goal.slice_bounds-result-end
slice_bounds-result-end c = search (rules, length-take-le)
