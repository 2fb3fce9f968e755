use Rattle.std.proofs.Common.{◌≡◌, ◌+◌, ◌≤◌, drop}
use Rattle.fk_ports.specs.Known.{IsGiven}
use Rattle.fk_machine.specs.Run.{committed}
use Rattle.fk_machine.specs.View.{machine_of}
use Rattle.fk_trace.specs.Text.{ranges_text}
use Rattle.fk_trace.specs.Ranges.{numbers_of, text_from}
use Rattle.fk_trace.proofs.ranges.give_ranges.Given as goal

-- the text of the harts so far was given, except for that of the last range
abbrev pub invariant-loop-hart : goal.invariant-loop-hart
invariant-loop-hart g l = record {
  ordered : l.range.first ≤ l.range.last;
  last : l.range.last + 1 ≡ l.hart;
  given : IsGiven (ranges_text l.fn.column 0 (numbers_of l.fn.column (committed (machine_of l.fn.machine))))
      (text_from l.fn.column l.range (drop l.hart (numbers_of l.fn.column (committed (machine_of l.fn.machine)))))
      (g.K.Sink.taken l.initial.out) (g.K.Sink.taken l.out);
  steady : g.K.Sink.faults l.out ≡ g.K.Sink.faults l.initial.out;
}
