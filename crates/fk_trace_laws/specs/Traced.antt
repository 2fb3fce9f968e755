-- What the trace of a run tells of the program.
use Rattle.std.specs.Prelude.{◌≡◌, ℕ, ◌^◌, ◌<◌, ◌≤◌, List}
use Rattle.fk_syntax.specs.declared.facts.Facts.{Facts}
use Rattle.fk_syntax.specs.Program.{ProgramTree}
use Rattle.fk_meaning_forms.specs.Tables.{Tables}
use Rattle.fk_layout.specs.Layout.{tables_by}
use Rattle.fk_image.specs.declared.Image.{Image}
use Rattle.fk_machine.specs.declared.stand.Stand.{Stand}
use Rattle.fk_machine.specs.Cycle.{machine_opening}
use Rattle.fk_machine.specs.Run.{machine, output_of}
use Rattle.fk_trace.specs.Early.{trace_of}
use Rattle.fk_replay_text.specs.Rounds.{schedule_of}
use Rattle.fk_replay_text.specs.Trace.{IsTrace, Told, moments_of}
use Rattle.fk_sim_rounds.specs.Follows.{IsInput, StandsAgree}
use Rattle.fk_compile_text.specs.Text.{IsChecked}
use Rattle.fk_compile.specs.Faithful.{IsFaithful, firsts_by, words_by}
use Rattle.fk_trace_laws.specs.Program.{IsLawfulFor, printed_by, stand_by}

module _ (tables : Tables) (program : ProgramTree) (words firsts input : List ℕ) (p : ℕ) where
  -- The text is a trace of p harts and so many cycles. Its rounds are a lawful schedule of the
  -- program, and the run under it ends with this output and with a machine's status.
  pub record IsLawfulTrace (text : List ℕ) (cycles : ℕ) (output : List ℕ)
      (stand : Stand) : Type 0 where
    pub lines : List Told
    pub trace : IsTrace p cycles lines text
    pub lawful : IsLawfulFor tables program words firsts input p
        (schedule_of p (moments_of lines) cycles)
    pub prints : printed_by tables program words firsts input p
        (schedule_of p (moments_of lines) cycles)
        ≡ output
    pub agrees : StandsAgree stand
        (stand_by tables program words firsts input p (schedule_of p (moments_of lines) cycles))

-- The trace of each run of an image that is faithful to a text is a lawful trace of the text's
-- program, over the cycles that were begun, and ends with the output and the status of the machine.
abbrev pub TraceIsLawful : Type 0
TraceIsLawful =
    (source : List ℕ) (program : ProgramTree) (facts : Facts) (image : Image) (input : List ℕ)
    (p n : ℕ) → IsFaithful source image → IsChecked source program facts
    → IsInput image input → 1 ≤ p → p ≤ 1024 → n < 2 ^ 32
    → IsLawfulTrace (tables_by program facts) program (words_by program facts)
    (firsts_by program facts) input p
    (trace_of n (machine_opening image input p)) (machine image input p n).begun
    (output_of image input p n) (machine image input p n).stand

-- Two traces of one text are the same.
pub record IsSameTrace (harts other cycles more : ℕ) (lines rest : List Told) : Type 0 where
  pub same_harts : harts ≡ other
  pub same_cycles : cycles ≡ more
  pub same_lines : lines ≡ rest

abbrev pub TextsTellOneTrace : Type 0
TextsTellOneTrace =
    (text : List ℕ) (harts other cycles more : ℕ) (lines rest : List Told)
    → IsTrace harts cycles lines text → IsTrace other more rest text
    → IsSameTrace harts other cycles more lines rest
