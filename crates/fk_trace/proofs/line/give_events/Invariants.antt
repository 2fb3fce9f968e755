use Rattle.std.proofs.Common.{◌≡◌, take}
use Rattle.std.specs.Io.KnownBytes.{append_known}
use Rattle.fk_machine.specs.Run.{committed}
use Rattle.fk_machine.specs.View.{machine_of}
use Rattle.fk_trace.specs.Text.{all_events, event_lines}
use Rattle.fk_trace.proofs.line.give_events.Given as goal

abbrev pub invariant-loop-event : goal.invariant-loop-event
invariant-loop-event g l = record {
  taken : g.K.Sink.taken l.out
      ≡ append_known (g.K.Sink.taken l.initial.out) (event_lines (machine_of l.fn.machine).begun (committed (machine_of l.fn.machine)) (take l.event-index all_events));
  steady : g.K.Sink.faults l.out ≡ g.K.Sink.faults l.initial.out;
}
