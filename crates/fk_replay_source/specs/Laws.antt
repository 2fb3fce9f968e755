-- From the list of a program to the program, and from a machine's run to the replay of its trace.
use Rattle.std.specs.Prelude.{◌≡◌, ℕ, ◌^◌, ◌<◌, ◌≤◌, List, Result, Ok, Err}
use Rattle.fk_syntax.specs.declared.facts.Facts.{Facts}
use Rattle.fk_syntax.specs.Program.{ProgramTree}
use Rattle.fk_meaning_forms.specs.Program.{main_of}
use Rattle.fk_meaning_forms.specs.Tables.{Tables}
use Rattle.fk_meaning.specs.Processor.{Setting}
use Rattle.fk_meaning.specs.Program.{next_in, program_opening}
use Rattle.fk_meaning.specs.Schedule.{Schedule}
use Rattle.fk_core.specs.declared.op.CoreOp.{CoreOp}
use Rattle.fk_core.specs.KeepsRuns.{HasCodeOf}
use Rattle.fk_core.specs.Next.{list_opening, next}
use Rattle.fk_image.specs.declared.Image.{Image}
use Rattle.fk_machine.specs.Cycle.{machine_opening}
use Rattle.fk_machine.specs.Run.{machine, output_of}
use Rattle.fk_machine.specs.declared.stand.Stand.{Stand}
use Rattle.fk_trace.specs.Early.{trace_of}
use Rattle.fk_replay_text.specs.Rounds.{schedule_of}
use Rattle.fk_replay_text.specs.Trace.{IsTrace, Told, moments_of}
use Rattle.fk_replay_text.specs.declared.fault.ReplayFault.{ReplayFault}
use Rattle.fk_replay_text.specs.declared.fault.ReplayFault.TheVariants.{Memory}
use Rattle.fk_replay.specs.declared.end.Replayed.{Replayed}
use Rattle.fk_replay.specs.Replay.{IsAnswer, stand_in}
use Rattle.fk_sim_rounds.specs.Follows.{IsInput, StandsAgree}
use Rattle.fk_compile_text.specs.Text.{IsChecked}
use Rattle.fk_compile.specs.Faithful.{IsFaithful}
use Rattle.fk_trace_laws.specs.Program.{first, next_of, setting}
use Rattle.fk_replay_source.specs.Alike.{AllowAlike}
use Rattle.fk_replay_source.specs.Answer.{Answers, IsAnswerFor}

-- a program and a list that has its code allow the same rounds
abbrev pub ListsAllowTheSame : Type 0
ListsAllowTheSame =
    (tables : Tables) (program : ProgramTree) (core : List CoreOp) (entry : ℕ → ℕ)
    → HasCodeOf tables program core entry
    → (words firsts input : List ℕ) (p : ℕ) (setting : Setting)
    → AllowAlike (next_in tables program) (next core) setting
    (program_opening tables program words firsts input p)
    (list_opening (entry (main_of tables program)) words firsts input p)

-- an answer for the list is one for the program
abbrev pub AnswersAreCarried : Type 0
AnswersAreCarried =
    (tables : Tables) (program : ProgramTree) (core : List CoreOp) (entry : ℕ → ℕ)
    → HasCodeOf tables program core entry
    → (words firsts input : List ℕ) (p : ℕ) (schedule : Schedule)
    (answer : Result Replayed ReplayFault)
    → IsAnswer core (entry (main_of tables program)) words firsts input p schedule answer
    → Answers (next_of tables program words firsts input p)
    (setting tables program words firsts input p)
    (first tables program words firsts input p) schedule answer

-- the trace is accepted, with a machine's output and status, or memory is refused
abbrev pub IsAcceptedWith : (output : List ℕ) → Stand → Result Replayed ReplayFault → Type 0
IsAcceptedWith output stand (Ok run) = (run.output.items ≡ output)
    × StandsAgree stand (stand_in run.end)
IsAcceptedWith output stand (Err Memory) = Unit {0}
IsAcceptedWith output stand (Err fault) = ⊥

-- the trace of each run of an image that is faithful to a text is accepted where the text's program
-- is run under it, with the same input
abbrev pub TracesAreAccepted : Type 0
TracesAreAccepted =
    (source : List ℕ) (program : ProgramTree) (facts : Facts) (image : Image) (input : List ℕ)
    (p n : ℕ) → IsFaithful source image → IsChecked source program facts
    → IsInput image input → 1 ≤ p → p ≤ 1024 → n < 2 ^ 32
    → (harts cycles : ℕ) (lines : List Told)
    → IsTrace harts cycles lines (trace_of n (machine_opening image input p))
    → (answer : Result Replayed ReplayFault)
    → IsAnswerFor program facts input harts (schedule_of harts (moments_of lines) cycles) answer
    → IsAcceptedWith (output_of image input p n) (machine image input p n).stand answer
