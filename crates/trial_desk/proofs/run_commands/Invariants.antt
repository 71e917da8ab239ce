-- Each turn of `run_commands` runs a line and goes behind it, and what is left to run leads where all of the commands lead. Assumes nothing.
use Prim.Native.Nat.{◌-◌}
use lib.ListN.{length}
use Rattle.book.specs.Layout.{five}
use Rattle.rounds.proofs.Turns.{Turning}
use Rattle.trial_desk.proofs.Stopping.{Running}
use Rattle.trial_desk.proofs.run_commands.Given as goal

abbrev pub invariant-loop-at : goal.invariant-loop-at
invariant-loop-at g l = record {
  turns : Turning l.text (record { counts = l.initial.c; buffers = five l.nodes l.names l.initial.lines l.initial.pool l.initial.journal }) l.commands
      (record { counts = l.c; buffers = five l.nodes l.names l.lines l.pool l.journal }) l.at;
  runs : Running l.text (record { counts = l.initial.c; buffers = five l.nodes l.names l.initial.lines l.initial.pool l.initial.journal }) l.commands
      (record { counts = l.c; buffers = five l.nodes l.names l.lines l.pool l.journal }) l.at;
}

abbrev pub decreases-loop-at : goal.decreases-loop-at
decreases-loop-at g l = length l.commands - l.at
