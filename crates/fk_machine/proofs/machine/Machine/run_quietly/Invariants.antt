use Rattle.std.proofs.Common.{◌≡◌, []}
use Rattle.fk_machine.specs.declared.stand.Stand.TheVariants.{Running}
use Rattle.fk_machine.specs.Run.{after, output_in}
use Rattle.fk_machine.specs.View.{code_of, machine_of}
use Rattle.fk_machine.proofs.machine.Machine.run_quietly.Given as goal

abbrev pub invariant-loop-done : goal.invariant-loop-done
invariant-loop-done l = record {
  running : l.self.stand ≡ Running;
  unprinted : l.self.shared.output.items ≡ [];
  ran : machine_of l.self ≡ after l.done (machine_of l.initial.self);
  printed : output_in l.done (machine_of l.initial.self) ≡ [];
  code : code_of l.self ≡ code_of l.initial.self;
}
