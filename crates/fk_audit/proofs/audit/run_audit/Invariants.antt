use Rattle.std.proofs.Common.{◌≡◌}
use Rattle.fk_machine.specs.Run.{after}
use Rattle.fk_machine.specs.View.{machine_of}
use Rattle.fk_audit.specs.declared.access.AccessKind.TheVariants.{Read, Write}
use Rattle.fk_audit.specs.Clash.{IsFirstOf}
use Rattle.fk_audit.specs.Mark.{AreUpTo}
use Rattle.fk_audit.proofs.audit.run_audit.Given as goal

abbrev pub invariant-loop-done : goal.invariant-loop-done
invariant-loop-done l = record {
  ran : machine_of l.machine ≡ after l.done (machine_of l.initial.machine);
  begun : (machine_of l.machine).begun ≡ l.done;
  marks : AreUpTo (machine_of l.machine).begun l.marks;
  read : IsFirstOf Read (machine_of l.initial.machine) l.done l.verdict.read;
  write : IsFirstOf Write (machine_of l.initial.machine) l.done l.verdict.write;
}
