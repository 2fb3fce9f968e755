use Rattle.std.proofs.Common.{sym, ap, subst, ◌∙◌, inl, inr}
use Rattle.std.specs.Io.KnownBytes.{append_known}
use Rattle.fk_ports.proofs.Given.{append_known-nil}
use Rattle.fk_machine.specs.declared.stand.Stand.{Stand}
use Rattle.fk_machine.specs.declared.stand.Stand.TheVariants.{Running, Finished, Faulted, Trapped}
use Rattle.fk_machine.specs.Cycle.{Machine}
use Rattle.fk_machine.specs.Run.{after}
use Rattle.fk_machine.specs.View.{machine_of}
use Rattle.fk_ports.specs.Known.{TakesPrefix}
use Rattle.fk_top.specs.Ending.{run_outcome}
use Rattle.fk_top.specs.Outcome.{stand_report, status_of}
use Rattle.fk_top.specs.Report.{line_of}
use Rattle.fk_top.specs.Call.{Call, HasCause, HasEnded}
use Rattle.fk_top.proofs.Runs.{on_is_err, on_is_ok}
use Rattle.fk_top.proofs.call.run_and_report.Goals as goal

-- a machine's status has its cause
ended_by : (call : Call) (stand : Stand) → HasEnded call (status_of stand) → HasCause call (status_of stand)
ended_by call Running ended = ended
ended_by call Finished ended = ended
ended_by call (Faulted site hart) ended = ended
ended_by call (Trapped hart pc kind) ended = ended

pub returns-in_default-clause-cause : goal.returns-in_default-clause-cause
returns-in_default-clause-cause g c = λ request store same ends. record {
  outcome = run_outcome c.args.run;
  cause = ends;
  cut = inr (inl (same, record { rose = c.in_default.ensures.fault; prefix = c.in_default.ensures.prefix }, sym (append_known-nil _)));
}

pub returns-then-is_err-clause-cause : goal.returns-then-is_err-clause-cause
returns-then-is_err-clause-cause g c = λ request store same ends.
    let m = machine_of c.args.run.machine in
    let end = c.in-Ok.ensures.machine in
    let stand = c.in-Ok.ensures.stand ∙ ap (λ (l : Machine). l.stand) end in
    let begun = c.cycles.ensures ∙ ap (λ (l : Machine). l.begun) end in
    let report = c.stand_report-report.ensures ∙ ap (λ s. stand_report c.args.run.image c.args.run.bound s c.cycles.result) stand ∙ ap (stand_report c.args.run.image c.args.run.bound (after c.args.run.bound m).stand) begun in
    let failed = sym c.is_err.ensures.value ∙ c.if-is_err.true in
    record {
      outcome = run_outcome c.args.run;
      cause = ends;
      cut = inr (inr (
        same,
        c.in-Ok.ensures.all,
        record {
          rose = on_is_err c.give_line.result _ failed c.give_line.ensures.fault;
          prefix = subst (λ r. TakesPrefix (g.E.Sink.taken c.args.err.now) (g.E.Sink.taken c.give_line.new.err) (line_of r)) report (on_is_err c.give_line.result _ failed c.give_line.ensures.prefix);
        },
      ));
    }

pub returns-clause-cause : goal.returns-clause-cause
returns-clause-cause g c = λ request store same ends.
    let m = machine_of c.args.run.machine in
    let end = c.in-Ok.ensures.machine in
    let stand = c.in-Ok.ensures.stand ∙ ap (λ (l : Machine). l.stand) end in
    let begun = c.cycles.ensures ∙ ap (λ (l : Machine). l.begun) end in
    let report = c.stand_report-report.ensures ∙ ap (λ s. stand_report c.args.run.image c.args.run.bound s c.cycles.result) stand ∙ ap (stand_report c.args.run.image c.args.run.bound (after c.args.run.bound m).stand) begun in
    subst (HasCause _) (sym c.status_of.ensures)
    (ended_by _ c.in-Ok.stand (record {
      outcome = run_outcome c.args.run;
      status_is = ap status_of (sym stand);
      cause = ends;
      put = same;
      out_took = c.in-Ok.ensures.all;
      err_took = on_is_ok c.give_line.result _ (sym c.is_err.ensures.value ∙ c.if-is_err.false) c.give_line.ensures.all ∙ ap (λ r. append_known (g.E.Sink.taken c.args.err.now) (line_of r)) report;
    }))
