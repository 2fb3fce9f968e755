use Rattle.std.proofs.Common.{None, ap, ◌∙◌}
use Rattle.fk_top.specs.declared.report.Report.{Report}
use Rattle.fk_top.specs.declared.status.Status.{Status}
use Rattle.fk_top.specs.Report.{line_of}
use Rattle.fk_top.specs.Outcome.{Outcome, replay_status}
use Rattle.fk_top.proofs.replay.accepted.Goals as goal

pub returns : goal.returns
returns c =
    let run = c.args.run in
    let listed = c.args.listed.now in
    let at : Status → Report → Outcome = λ s r. record { status = s; put = None; output = run.output.items; line = line_of r } in
    ap (λ (s : Status). at s c.report_of.result) c.status_of.ensures ∙ ap (at (replay_status run.end)) c.report_of.ensures
