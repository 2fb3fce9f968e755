use Rattle.std.proofs.Common.{◌≡◌, ◌+◌, ◌-◌, ◌<◌, ◌≤◌, ◌^◌}
use Rattle.std.specs.Io.KnownBytes.{append_known}
use Rattle.fk_machine.specs.Run.{after}
use Rattle.fk_machine.specs.View.{machine_of}
use Rattle.fk_trace.specs.Early.{lines_in}
use Rattle.fk_trace.proofs.trace.trace_for.Given as goal

abbrev pub decreases-loop-left : goal.decreases-loop-left
decreases-loop-left g l = l.left

-- the cycles so far were run, and their lines were taken
abbrev pub invariant-loop-left : goal.invariant-loop-left
invariant-loop-left g l = record {
  few : l.left ≤ l.cycles;
  ran : machine_of l.machine ≡ after (l.cycles - l.left) (machine_of l.initial.machine);
  taken : g.K.Sink.taken l.out ≡ append_known (g.K.Sink.taken l.initial.out) (lines_in (l.cycles - l.left) (machine_of l.initial.machine));
  steady : g.K.Sink.faults l.out ≡ g.K.Sink.faults l.initial.out;
  count : (machine_of l.machine).begun + l.left < 2 ^ 32;
}
