-- The loop's invariant: the digits that are left decide. Assumes nothing.
use Prim.Native.Nat.{◌<◌}
use mathlib.Core.Path.{◌≡◌}
use lib.ListN.{drop}
use Rattle.desk_commands.specs.Parts.{number_limit, worth}
use Rattle.desk_commands.proofs.parts.number_at.Given as goal

abbrev pub invariant-loop-b : goal.invariant-loop-b
invariant-loop-b l = record {
  below : l.value < number_limit;
  rest : worth l.value (drop l.b-index l.digits) ≡ worth 0 l.digits;
}
