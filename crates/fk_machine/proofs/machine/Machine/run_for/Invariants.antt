use Rattle.std.proofs.Common.{◌≡◌, ◌+◌, ◌-◌, ◌<◌, ◌≤◌, ◌^◌}
use Rattle.std.specs.Io.KnownBytes.{append_known}
use Rattle.fk_machine.specs.Run.{after, output_in}
use Rattle.fk_machine.specs.View.{code_of, machine_of}
use Rattle.fk_machine.proofs.machine.Machine.run_for.Given as goal

abbrev pub decreases-loop-left : goal.decreases-loop-left
decreases-loop-left g l = l.left

-- the cycles so far were run, and what they printed was taken
abbrev pub invariant-loop-left : goal.invariant-loop-left
invariant-loop-left g l = record {
  few : l.left ≤ l.cycles;
  ran : machine_of l.self ≡ after (l.cycles - l.left) (machine_of l.initial.self);
  taken : g.K.Sink.taken l.out ≡ append_known (g.K.Sink.taken l.initial.out) (output_in (l.cycles - l.left) (machine_of l.initial.self));
  steady : g.K.Sink.faults l.out ≡ g.K.Sink.faults l.initial.out;
  count : (machine_of l.self).begun + l.left < 2 ^ 32;
  code : code_of l.self ≡ code_of l.initial.self;
}
