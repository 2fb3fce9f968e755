-- The ending of an audit.
use Rattle.std.proofs.Common.{◌≡◌, ℕ, List, None, ap, ◌∙◌}
use Rattle.fk_image.specs.declared.Image.{Image}
use Rattle.fk_machine.specs.declared.stand.Stand.{Stand}
use Rattle.fk_machine.specs.Run.{machine}
use Rattle.fk_audit.specs.declared.verdict.Verdict.{Verdict}
use Rattle.fk_top.specs.declared.report.Report.{Report}
use Rattle.fk_top.specs.declared.status.Status.{Status}
use Rattle.fk_top.specs.Report.{line_of, verdict_text}
use Rattle.fk_top.specs.Outcome.{Outcome, audited, stand_report, status_of}

-- what the code tells of a run that was audited
pub audited_is : (image : Image) (input passed : List ℕ) (p n : ℕ) (v : Verdict) (stand : Stand) (begun : ℕ) (status : Status) (output : List ℕ) (report : Report) → passed ≡ input
    → stand ≡ (machine image passed p n).stand → begun ≡ (machine image passed p n).begun → status ≡ status_of stand → output ≡ verdict_text v → report ≡ stand_report image n stand begun
    → record { status = status; put = None; output = output; line = line_of report } ≡ audited image input p n v
audited_is image input passed p n v stand begun status output report same is_stand is_begun is_status is_output is_report =
    let m = machine image passed p n in
    let at : Status → List ℕ → Report → Outcome = λ s o r. record { status = s; put = None; output = o; line = line_of r } in
    let told = is_report ∙ ap (λ (s : Stand). stand_report image n s begun) is_stand ∙ ap (stand_report image n m.stand) is_begun in
    ap (λ (s : Status). at s output report) (is_status ∙ ap status_of is_stand)
    ∙ ap (λ (o : List ℕ). at (status_of m.stand) o report) is_output
    ∙ ap (at (status_of m.stand) (verdict_text v)) told
    ∙ ap (λ (i : List ℕ). audited image i p n v) same
