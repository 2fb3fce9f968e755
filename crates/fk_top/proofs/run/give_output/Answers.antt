use Rattle.std.proofs.Common.{◌-◌, sym, ap, subst, ◌∙◌}
use Rattle.std.specs.Prelude.{option_map}
use Rattle.std.specs.Io.KnownBytes.{append_known}
use Rattle.fk_ports.specs.Known.{TakesPrefix}
use Rattle.fk_ports.proofs.Given.{append_known-append, TakesPrefix-after}
use Rattle.fk_ports.proofs.Pieces.{on_err, part_of_same}
use Rattle.fk_machine.specs.Cycle.{Machine}
use Rattle.fk_machine.specs.Run.{after, output_in}
use Rattle.fk_machine.specs.View.{machine_of}
use Rattle.fk_machine.proofs.Stopped.{cut_output}
use Rattle.fk_top.specs.Ending.{run_text, variable_of}
use Rattle.fk_top.specs.Outcome.{Prints, words_in}
use Rattle.fk_top.specs.Report.{show_line}
use Rattle.fk_top.proofs.Runs.{all_left, part_shown}
use Rattle.fk_top.proofs.run.give_output.Goals as goal

pub returns-in_err-stand-clause-prefix : goal.returns-in_err-stand-clause-prefix
returns-in_err-stand-clause-prefix g c =
    let m = machine_of c.args.machine.now in
    let bound = c.args.bound in
    let left = all_left bound m.begun c.requires in
    let part = cut_output (bound - m.begun) m _ (g.K.Sink.taken c.args.out.now) (g.K.Sink.taken c.run_to.new.out) c.in_err-stand.ensures.early in
    on_err c.from_residual.result _
    (part_shown _ _ (output_in bound m) (option_map variable_of c.args.variable) (after bound m)
    (part_of_same _ _ (output_in (bound - m.begun) m) (output_in bound m) (ap (λ i. output_in i m) left) part))

-- nothing is shown
pub returns-in_default-clause-machine : goal.returns-in_default-clause-machine
returns-in_default-clause-machine g c =
    let m = machine_of c.args.machine.now in
    c.in_ok-stand.ensures.machine ∙ ap (λ i. after i m) (all_left c.args.bound m.begun c.requires)

pub returns-in_default-clause-all : goal.returns-in_default-clause-all
returns-in_default-clause-all g c =
    let m = machine_of c.args.machine.now in
    let before = g.K.Sink.taken c.args.out.now in
    c.in_ok-stand.ensures.output
    ∙ ap (λ i. append_known before (output_in i m)) (all_left c.args.bound m.begun c.requires)
    ∙ ap (λ shown. append_known before (run_text c.args.bound m (Prints (option_map variable_of shown)))) (sym c.in_default.is)

-- the line of a variable
pub returns-in_err-give_shown-clause-prefix : goal.returns-in_err-give_shown-clause-prefix
returns-in_err-give_shown-clause-prefix g c =
    let m = machine_of c.args.machine.now in
    let bound = c.args.bound in
    let before = g.K.Sink.taken c.args.out.now in
    let v = c.in-Some.variable in
    let left = all_left bound m.begun c.requires in
    let end = c.in_ok-stand.ensures.machine ∙ ap (λ i. after i m) left in
    let printed = c.in_ok-stand.ensures.output ∙ ap (λ i. append_known before (output_in i m)) left in
    let part = subst (λ (l : Machine). TakesPrefix (g.K.Sink.taken c.run_to.new.out) (g.K.Sink.taken c.give_shown.new.out) (show_line v.name.now v.signed (words_in l (variable_of v)))) end c.in_err-give_shown.ensures.prefix in
    on_err c.from_residual-in_err-give_shown.result _
    (part_of_same before _ _ (run_text bound m (Prints (option_map variable_of c.args.variable))) (ap (λ shown. run_text bound m (Prints (option_map variable_of shown))) (sym c.in-Some.is))
    (TakesPrefix-after before _ _ (output_in bound m) (show_line v.name.now v.signed (words_in (after bound m) (variable_of v))) printed part))

pub returns-clause-machine : goal.returns-clause-machine
returns-clause-machine g c =
    let m = machine_of c.args.machine.now in
    c.in_ok-stand.ensures.machine ∙ ap (λ i. after i m) (all_left c.args.bound m.begun c.requires)

pub returns-clause-all : goal.returns-clause-all
returns-clause-all g c =
    let m = machine_of c.args.machine.now in
    let bound = c.args.bound in
    let before = g.K.Sink.taken c.args.out.now in
    let v = c.in-Some.variable in
    let left = all_left bound m.begun c.requires in
    let end = c.in_ok-stand.ensures.machine ∙ ap (λ i. after i m) left in
    let printed = c.in_ok-stand.ensures.output ∙ ap (λ i. append_known before (output_in i m)) left in
    let line = show_line v.name.now v.signed (words_in (after bound m) (variable_of v)) in
    c.in_ok-give_shown.ensures.all
    ∙ ap (λ (l : Machine). append_known (g.K.Sink.taken c.run_to.new.out) (show_line v.name.now v.signed (words_in l (variable_of v)))) end
    ∙ ap (λ known. append_known known line) printed
    ∙ append_known-append before (output_in bound m) line
    ∙ ap (λ shown. append_known before (run_text bound m (Prints (option_map variable_of shown)))) (sym c.in-Some.is)
