use Rattle.std.proofs.Common.{ap, ◌∙◌, sym, subst}
use Rattle.fk_machine.specs.Cycle.{Machine}
use Rattle.fk_machine.specs.Run.{after}
use Rattle.fk_machine.proofs.Runs.{machine-after}
use Rattle.fk_audit.specs.declared.access.AccessKind.TheVariants.{Read, Write}
use Rattle.fk_audit.specs.Clash.{IsFirstOf}
use Rattle.fk_top.proofs.audit.audit_image.Goals as goal

pub run_audit-stand-requires-clause-unbegun : goal.run_audit-stand-requires-clause-unbegun
run_audit-stand-requires-clause-unbegun c = ap (λ (m : Machine). m.begun) c.in_ok-machine.ensures.machine

pub returns-clause-verdict : goal.returns-clause-verdict
returns-clause-verdict c =
    let same = c.in_ok-machine.ensures.machine in
    record {
      read = subst (λ (m : Machine). IsFirstOf Read m c.args.bound c.run_audit-stand.result.1.read) same c.run_audit-stand.ensures.read;
      write = subst (λ (m : Machine). IsFirstOf Write m c.args.bound c.run_audit-stand.result.1.write) same c.run_audit-stand.ensures.write;
    }

pub returns-clause-stand : goal.returns-clause-stand
returns-clause-stand c =
    c.run_audit-stand.ensures.stand
    ∙ ap (λ (m : Machine). m.stand) (c.run_audit-stand.ensures.machine ∙ ap (after c.args.bound) c.in_ok-machine.ensures.machine ∙ sym (machine-after c.args.image.now c.args.input.now c.args.harts c.args.bound))

pub returns-clause-cycles : goal.returns-clause-cycles
returns-clause-cycles c =
    c.cycles.ensures
    ∙ ap (λ (m : Machine). m.begun) (c.run_audit-stand.ensures.machine ∙ ap (after c.args.bound) c.in_ok-machine.ensures.machine ∙ sym (machine-after c.args.image.now c.args.input.now c.args.harts c.args.bound))
