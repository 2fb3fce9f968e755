use Rattle.std.proofs.Common.{◌∙◌, sym}
use Rattle.fk_machine.specs.View.{local_of, machine_of}
use Rattle.fk_machine.proofs.Harts.{harts_length}
use Rattle.fk_machine.proofs.machine.Machine.harts.Goals as goal

pub returns-clause-harts : goal.returns-clause-harts
unfolding machine_of
returns-clause-harts c =
    let m = c.args.self.now in
    harts_length 0 m.harts.items (local_of m.locals.items) ∙ sym (m.counted ∙ m.harts.ok.0)
