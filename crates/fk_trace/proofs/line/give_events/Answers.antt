use Rattle.std.proofs.Common.{get_or, ◌∙◌}
use Rattle.fk_ports.proofs.Pieces.{on_err, same_within, one_given, part_given}
use Rattle.fk_machine.specs.Run.{committed}
use Rattle.fk_machine.specs.View.{machine_of}
use Rattle.fk_trace.specs.declared.column.Column.TheVariants.{Of}
use Rattle.fk_image.specs.declared.event.Event.TheVariants.{Split}
use Rattle.fk_trace.specs.Text.{all_events, line_if}
use Rattle.fk_trace.proofs.line.give_events.Goals as goal

pub returns-in_err-give_line-clause-prefix : goal.returns-in_err-give_line-clause-prefix
returns-in_err-give_line-clause-prefix g c =
    let m = machine_of c.args.machine.now in
    let event = get_or all_events c.loop-event.event-index Split in
    on_err c.from_residual.result _
    (part_given (λ event. line_if (Of event) m.begun (committed m)) _ _ _ all_events c.loop-event.event-index event c.loop-event-test.true
    (same_within all_events c.loop-event.event-index Split event c.loop-event-test.true) c.loop-event.invariant.taken c.in_err-give_line.ensures.prefix)

pub loop-event-preserved : goal.loop-event-preserved
loop-event-preserved g c =
    let m = machine_of c.args.machine.now in
    let event = get_or all_events c.loop-event.event-index Split in
    record {
      taken =
          one_given (λ event. line_if (Of event) m.begun (committed m)) _ _ _ all_events c.loop-event.event-index event c.loop-event-test.true
          (same_within all_events c.loop-event.event-index Split event c.loop-event-test.true) c.loop-event.invariant.taken c.in_ok-give_line.ensures.all;
      steady = c.in_ok-give_line.ensures.steady ∙ c.loop-event.invariant.steady;
    }
