-- `find_mark` meets its contract. The loop's invariant: what is found from i on decides. Assumes nothing.
use mathlib.Core.Path.{◌≡◌}
use lib.ListN.{drop}
use Rattle.input.specs.Splitting.{mark, mark_in}
use Rattle.input.proofs.splitting.find_mark.Given as goal

abbrev pub invariant-loop-i : goal.invariant-loop-i
invariant-loop-i l = mark l.s ≡ mark_in l.fresh l.i (drop l.i l.s)
