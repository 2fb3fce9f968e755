-- The trace of a machine's run is accepted.
use Rattle.std.proofs.Common.{◌≡◌, ℕ, List, Option, Result, Ok, Err, sym, subst, ◌∙◌}
use Rattle.fk_meaning.specs.Processor.{Setting}
use Rattle.fk_meaning.specs.Round.{Step, State}
use Rattle.fk_meaning.specs.Schedule.{Schedule, IsLawful, SourceStand, run, stand_of}
use Rattle.fk_layout.specs.Layout.{tables_by}
use Rattle.fk_machine.specs.Cycle.{machine_opening}
use Rattle.fk_machine.specs.Run.{machine, output_of}
use Rattle.fk_machine.specs.declared.stand.Stand.{Stand}
use Rattle.fk_trace.specs.Early.{trace_of}
use Rattle.fk_replay_text.specs.Rounds.{schedule_of}
use Rattle.fk_replay_text.specs.Trace.{Told, moments_of}
use Rattle.fk_replay_text.specs.declared.fault.ReplayFault.{ReplayFault}
use Rattle.fk_replay_text.specs.declared.fault.ReplayFault.TheVariants.{BadTrace, NotPossible, Pace, Memory}
use Rattle.fk_replay.specs.declared.end.Replayed.{Replayed}
use Rattle.fk_replay_schedules.proofs.Lawful.{no_fault}
use Rattle.fk_sim_rounds.specs.Follows.{StandsAgree}
use Rattle.fk_compile.specs.Faithful.{firsts_by, words_by}
use Rattle.fk_trace_laws.specs.Program.{first, next_of, setting}
use Rattle.fk_trace_laws.proofs.OneTrace.{texts_tell_one_trace}
use Rattle.fk_trace_laws.proofs.Traced.{trace_is_lawful}
use Rattle.fk_replay_source.specs.Answer.{Answers, IsAnswerFor}
use Rattle.fk_replay_source.specs.Laws.{IsAcceptedWith, TracesAreAccepted}

-- an answer to a lawful schedule is its run
accepted : {W : Type 0} (next : W → Option (Step W)) (set : Setting) (opening : State W) (schedule : Schedule) (output : List ℕ) (stand : Stand) → IsLawful next set schedule opening
    → (run next set schedule opening).store.output ≡ output → StandsAgree stand (stand_of next set (run next set schedule opening)) → (answer : Result Replayed ReplayFault) → Answers next set opening schedule answer
    → IsAcceptedWith output stand answer
accepted next set opening schedule output stand lawful prints agrees (Ok run) is = (is.output ∙ prints, subst (λ (s : SourceStand). StandsAgree stand s) (sym is.stand) agrees)
accepted next set opening schedule output stand lawful prints agrees (Err (NotPossible round)) is =
    absurd ((no_fault next set schedule opening lawful).none_bad round is.bad)
accepted next set opening schedule output stand lawful prints agrees (Err (Pace round processor)) is =
    absurd ((no_fault next set schedule opening lawful).none_late round processor is.late)
accepted next set opening schedule output stand lawful prints agrees (Err (BadTrace line)) is = absurd is
accepted next set opening schedule output stand lawful prints agrees (Err Memory) is = tt

pub traces_are_accepted : TracesAreAccepted
traces_are_accepted source program facts image input p n faithful checked within some few bound harts cycles lines told answer is =
    let law = trace_is_lawful source program facts image input p n faithful checked within some few bound in
    let same = texts_tell_one_trace (trace_of n (machine_opening image input p)) harts p cycles (machine image input p n).begun lines law.lines told law.trace in
    let tables = tables_by program facts in
    let words = words_by program facts in
    let firsts = firsts_by program facts in
    let here = subst (λ (ls : List Told). IsAnswerFor program facts input p (schedule_of p (moments_of ls) (machine image input p n).begun) answer) same.same_lines
    (subst (λ (t : ℕ). IsAnswerFor program facts input p (schedule_of p (moments_of lines) t) answer) same.same_cycles
    (subst (λ (h : ℕ). IsAnswerFor program facts input h (schedule_of h (moments_of lines) cycles) answer) same.same_harts is)) in
    accepted (next_of tables program words firsts input p) (setting tables program words firsts input p) (first tables program words firsts input p)
    (schedule_of p (moments_of law.lines) (machine image input p n).begun) (output_of image input p n) (machine image input p n).stand law.lawful law.prints law.agrees answer here
