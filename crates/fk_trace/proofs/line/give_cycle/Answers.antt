use Rattle.std.proofs.Common.{sym, ap, ◌∙◌}
use Rattle.std.specs.Io.KnownBytes.{append_known}
use Rattle.fk_ports.proofs.Given.{append_known-append, TakesPrefix-longer, TakesPrefix-after}
use Rattle.fk_ports.proofs.Pieces.{on_err, err_then, ok_then}
use Rattle.fk_machine.specs.Run.{committed}
use Rattle.fk_machine.specs.View.{machine_of}
use Rattle.fk_trace.specs.declared.column.Column.TheVariants.{Counts}
use Rattle.fk_trace.specs.Text.{all_events, event_lines, line_if}
use Rattle.fk_trace.proofs.Lines.{only_counts}
use Rattle.fk_trace.proofs.line.give_cycle.Goals as goal

pub returns-in_err-give_line-clause-prefix : goal.returns-in_err-give_line-clause-prefix
returns-in_err-give_line-clause-prefix g c =
    let m = machine_of c.args.machine.now in
    on_err c.from_residual.result _
    (TakesPrefix-longer _ _ (line_if Counts m.begun (committed m)) (event_lines m.begun (committed m) all_events) c.in_err-give_line.ensures.prefix)

pub returns-clause-prefix : goal.returns-clause-prefix
returns-clause-prefix g c =
    let m = machine_of c.args.machine.now in
    err_then c.give_events.result _ _
    (TakesPrefix-after _ _ _ (line_if Counts m.begun (committed m)) (event_lines m.begun (committed m) all_events) c.in_ok-give_line.ensures.all) c.give_events.ensures.prefix

pub returns-then-not-has_event-clause-all : goal.returns-then-not-has_event-clause-all
returns-then-not-has_event-clause-all g c =
    let m = machine_of c.args.machine.now in
    let none = sym c.has_event.ensures ∙ c.if-not-has_event.true in
    c.in_ok-give_line.ensures.all ∙ ap (append_known (g.K.Sink.taken c.args.out.now)) (only_counts m.begun (committed m) none)

pub returns-clause-all : goal.returns-clause-all
returns-clause-all g c =
    let m = machine_of c.args.machine.now in
    let before = g.K.Sink.taken c.args.out.now in
    ok_then c.give_events.result _ _
    (λ all. all
    ∙ ap (λ known. append_known known (event_lines m.begun (committed m) all_events)) c.in_ok-give_line.ensures.all
    ∙ append_known-append before (line_if Counts m.begun (committed m)) (event_lines m.begun (committed m) all_events)) c.give_events.ensures.all
