-- What a replay comes to.
use Rattle.std.proofs.Common.{◌≡◌, ℕ, List, Some, Result, Ok, Err, refl, sym, subst, inl, inr}
use Rattle.fk_syntax.specs.declared.facts.Facts.{Facts}
use Rattle.fk_syntax.specs.Program.{ProgramTree}
use Rattle.fk_replay_text.specs.declared.fault.ReplayFault.{ReplayFault}
use Rattle.fk_replay_text.specs.declared.fault.ReplayFault.TheVariants.{BadTrace, NotPossible, Pace, Memory}
use Rattle.fk_replay.specs.declared.end.Replayed.{Replayed}
use Rattle.fk_top.specs.declared.reason.Reason.TheVariants as reasons
use Rattle.fk_top.specs.declared.report.Report.{Report}
use Rattle.fk_top.specs.declared.report.Report.TheVariants.{Refused}
use Rattle.fk_top.specs.declared.status.Status.TheVariants.{TraceRefused, InputRefused}
use Rattle.fk_top.specs.Report.{line_of}
use Rattle.fk_top.specs.Refused.{trace_report_of}
use Rattle.fk_top.specs.Outcome.{Outcome, EndsReplay, answered, replayed, silent}

-- an answer that has an outcome is that of a run, or refuses the trace
pub answered_as : (sites : List (ℕ × ℕ × ℕ)) (answer : Result Replayed ReplayFault) (cycles : ℕ) (outcome : Outcome) (P : Outcome → Type 0) → ((run : Replayed) → answer ≡ Ok run → P (replayed sites run cycles))
    → ((fault : ReplayFault) (report : Report) → answer ≡ Err fault → trace_report_of fault ≡ Some report → P (silent TraceRefused (line_of report))) → answered sites answer cycles ≡ Some outcome → P outcome
answered_as sites (Ok run) cycles outcome P runs refuses is = let same : replayed sites run cycles ≡ outcome = cc in subst P same (runs run refl)
answered_as sites (Err (BadTrace line)) cycles outcome P runs refuses is =
    let same : silent TraceRefused (line_of (Refused (reasons.BadTrace line))) ≡ outcome = cc in
    subst P same (refuses _ _ refl refl)
answered_as sites (Err (NotPossible round)) cycles outcome P runs refuses is =
    let same : silent TraceRefused (line_of (Refused (reasons.NotPossible round))) ≡ outcome = cc in
    subst P same (refuses _ _ refl refl)
answered_as sites (Err (Pace round processor)) cycles outcome P runs refuses is =
    let same : silent TraceRefused (line_of (Refused (reasons.Pace round processor))) ≡ outcome = cc in
    subst P same (refuses _ _ refl refl)
answered_as sites (Err Memory) cycles outcome P runs refuses is = absurd (cc)

-- what holds of a run that is accepted, of a trace and of an input that are refused, holds of all that a replay comes to
module _ (program : ProgramTree) (facts : Facts) (trace text : List ℕ) (outcome : Outcome) (P : Outcome → Type 0) where
  pub replay_as : ((sites : List (ℕ × ℕ × ℕ)) (run : Replayed) (cycles : ℕ) → P (replayed sites run cycles)) → ((line : List ℕ) → P (silent TraceRefused line)) → ((line : List ℕ) → P (silent InputRefused line))
      → EndsReplay program facts trace text outcome → P outcome
  replay_as runs refuses refuses_input (inl r) = subst P (sym r.is) (refuses _)
  replay_as runs refuses refuses_input (inr r) = elim r.ends [
    | inl input ↦ subst P (sym input.is) (refuses_input _)
    | inr answers ↦ answered_as _ answers.answer r.cycles outcome P (λ run is. runs _ run r.cycles) (λ fault report is says. refuses _) answers.is
  ]
