use Rattle.std.proofs.Common.{ap, ◌∙◌, ◌++◌}
use Rattle.std.specs.Prelude.{map, slice_index}
use Rattle.fk_isa.specs.Find.{row}
use Rattle.fk_machine.specs.Commit.{commits_of}
use Rattle.fk_machine.specs.View.{local_of, machine_of}
use Rattle.fk_machine.proofs.Locals.{local_of-zeros}
use Rattle.fk_machine.proofs.Opened.{opened}
use Rattle.fk_machine.proofs.machine.Machine.new.Goals as goal

pub returns-clause-machine : goal.returns-clause-machine
unfolding machine_of
returns-clause-machine c =
    let locals = c.in_ok-locals.locals.items in
    let harts = c.in_ok-first_harts.ensures.harts (local_of locals) (local_of-zeros locals c.in_ok-locals.ensures.zero) in
    let ran = c.in_ok-first_harts.ensures.ran in
    let setting = c.in_ok-setting.ensures in
    let shared = c.in_ok-shared.ensures in
    let code = setting.code ∙ ap (map row) c.deref.ensures.value in
    let commits = setting.commits ∙ ap commits_of c.deref-2.ensures.value in
    let words = shared.words ∙ ap (λ globals. slice_index (globals ++ c.args.input.now)) c.deref-3.ensures.value in
    opened c.args.image.now c.args.input.now c.args.harts _ _ _ _ _ _ _ _ _ _ code commits harts ran words shared.control shared.output shared.reserved setting.inputs setting.finished

pub returns-clause-code : goal.returns-clause-code
returns-clause-code c = c.in_ok-setting.ensures.words ∙ c.deref.ensures.value
