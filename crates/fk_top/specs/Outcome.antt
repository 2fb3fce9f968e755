-- The outcome of a command, for the file and the input that it reads.
use Rattle.std.specs.Prelude.{◌≡◌, ℕ, ◌+◌, ◌-◌, ◌≤◌, ◌⊎◌, List, [], ◌∷◌, ◌++◌, length, map, min}
use Rattle.std.specs.Prelude.{vec_len, slice_get, codes, Option, Some, None, Result, Ok, Err}
use Rattle.std.specs.Prelude.{option_map}
use Rattle.std.specs.List.{range_with_len}
use Rattle.fk_num.specs.Limits.{most_data_words, most_text_bytes}
use Rattle.fk_image.specs.declared.Image.{Image}
use Rattle.fk_image.specs.Spelling.{IsImageOf}
use Rattle.fk_elf.specs.Files.{IsElfOf}
use Rattle.fk_asm.specs.Listing as lines
use Rattle.fk_top_input.specs.declared.fault.InputFault.{InputFault}
use Rattle.fk_top_input.specs.Input.{input_of}
use Rattle.fk_locks_tokens.specs.Text.{lock_bytes}
use Rattle.fk_top_words.specs.Arguments.{Text}
use Rattle.fk_top_words.specs.Command.{Command, Run, Build, Exec, ListCode, Elf}
use Rattle.fk_top_words.specs.Command.{Unelf, Audit, Trace, Replay, Selftest, Locks}
use Rattle.fk_machine.specs.declared.stand.Stand.{Stand}
use Rattle.fk_machine.specs.declared.stand.Stand.TheVariants.{Running, Finished, Faulted, Trapped}
use Rattle.fk_machine.specs.Cycle.{Machine, machine_opening}
use Rattle.fk_machine.specs.Run.{machine, output_of}
use Rattle.fk_audit.specs.declared.access.AccessKind.TheVariants.{Read, Write}
use Rattle.fk_audit.specs.declared.verdict.Verdict.{Verdict}
use Rattle.fk_audit.specs.Clash.{IsFirstOf}
use Rattle.fk_trace.specs.Early.{trace_of}
use Rattle.fk_replay_text.specs.declared.fault.ReplayFault.{ReplayFault}
use Rattle.fk_replay_text.specs.Lines.{IsBadLine}
use Rattle.fk_replay_text.specs.Rounds.{schedule_of}
use Rattle.fk_replay_text.specs.Trace.{IsTrace, IsTraceText, Told, moments_of}
use Rattle.fk_replay.specs.declared.end.End.{End}
use Rattle.fk_replay.specs.declared.end.End.TheVariants as ends
use Rattle.fk_replay.specs.declared.end.Replayed.{Replayed}
use Rattle.fk_replay_source.specs.Answer.{IsAnswerFor, sites_by}
use Rattle.fk_layout.specs.Layout.{tables_by}
use Rattle.fk_layout.specs.Refusal.{Fits}
use Rattle.fk_syntax.specs.declared.facts.Facts.{Facts}
use Rattle.fk_syntax.specs.Program.{ProgramTree}
use Rattle.fk_layout_globals.specs.Rows.{Row}
use Rattle.fk_compile_text.specs.Text.{IsChecked, HasGlobal}
use Rattle.fk_compile.specs.Faithful.{IsFaithful, words_by}
use Rattle.fk_compile.specs.Events.{TellsEvents}
use Rattle.fk_top.specs.declared.kinds.FaultKind.TheVariants as fault
use Rattle.fk_top.specs.declared.report.Report.{Report}
use Rattle.fk_top.specs.declared.reason.Reason.TheVariants as reasons
use Rattle.fk_top.specs.declared.report.Report.TheVariants as reports
use Rattle.fk_top.specs.declared.status.Status.{Status}
use Rattle.fk_top.specs.declared.status.Status.TheVariants.{Done, Refused, SourceFault, CycleBound}
use Rattle.fk_top.specs.declared.status.Status.TheVariants.{Trap, ImageRefused, InputRefused}
use Rattle.fk_top.specs.declared.status.Status.TheVariants.{TraceRefused, ElfRefused}
use Rattle.fk_top.specs.Report.{fault_kind, trap_kind, line_of, no_global_line, show_line}
use Rattle.fk_top.specs.Report.{verdict_text}
use Rattle.fk_top.specs.Refused.{IsNoElfAs, IsNoImageAs, IsRefusedBy, input_report_of}
use Rattle.fk_top.specs.Refused.{trace_report_of}

-- A file that is put: its name and its bytes.
pub record Put : Type 0 where
  pub name : List ℕ
  pub bytes : List ℕ

-- The outcome of a call: its status, the file that it puts, if any, the bytes for `out`, and the
-- line for `err`.
pub record Outcome : Type 0 where
  pub status : Status
  pub put : Option Put
  pub output : List ℕ
  pub line : List ℕ

-- An outcome in which nothing is put and nothing printed.
abbrev pub silent : Status → List ℕ → Outcome
silent status line = record { status = status; put = None; output = []; line = line }

-- ---- a run of an image

-- The status for the status of the machine.
abbrev pub status_of : Stand → Status
status_of Finished = Done
status_of Running = CycleBound
status_of (Faulted site hart) = SourceFault
status_of (Trapped hart pc kind) = Trap

-- The report of a fault at a site, which has a kind, a line and a column. There may be no such
-- site.
abbrev pub fault_report : Option (ℕ × ℕ × ℕ) → ℕ → ℕ → Report
fault_report None processor cycles =
    reports.Fault fault.Other (record { line = 0; column = 0 }) processor cycles
fault_report (Some site) processor cycles =
    reports.Fault (fault_kind site.0) (record { line = site.1; column = site.2 }) processor cycles

-- The report for the status of the machine, after this many cycles of at most `bound`.
abbrev pub stand_report : Image → ℕ → Stand → ℕ → Report
stand_report image bound Finished cycles = reports.Finished cycles
stand_report image bound Running cycles = reports.Stopped bound
stand_report image bound (Faulted site hart) cycles =
    fault_report (slice_get image.sites.items site) hart cycles
stand_report image bound (Trapped hart pc kind) cycles =
    reports.Trap (trap_kind kind) pc hart cycles

-- The words of a variable in the machine.
abbrev pub words_in : Machine → Row → List ℕ
words_in m row = map m.shared.words (range_with_len row.first row.words)

-- The output, followed by the line of a variable in the machine, if one is shown.
abbrev pub with_shown : List ℕ → Option Row → Machine → List ℕ
with_shown output None m = output
with_shown output (Some row) m = output ++ show_line row.name row.signed (words_in m row)

-- What is written of a run: what the program prints, followed by the line of a variable, if one is
-- shown; or the trace of the run.
pub data Writing : Type 0 where
  Prints : (shown : Option Row) → Writing
  Traces : Writing

abbrev pub written : Image → List ℕ → ℕ → ℕ → Writing → List ℕ
written image input harts bound (Prints shown) =
    with_shown (output_of image input harts bound) shown (machine image input harts bound)
written image input harts bound Traces = trace_of bound (machine_opening image input harts)

-- The outcome of running the machine of an image on these input numbers for at most `bound` cycles.
abbrev pub ran : Image → List ℕ → ℕ → ℕ → Writing → Outcome
ran image input harts bound writing =
    let m = machine image input harts bound in
    record {
      status = status_of m.stand;
      put = None;
      output = written image input harts bound writing;
      line = line_of (stand_report image bound m.stand m.begun);
    }

-- ---- the audit of a run

-- The outcome of an audit with this verdict of running the machine of an image on these input
-- numbers for at most `bound` cycles. The program's own output isn't printed.
abbrev pub audited : Image → List ℕ → ℕ → ℕ → Verdict → Outcome
audited image input harts bound verdict =
    let m = machine image input harts bound in
    record {
      status = status_of m.stand;
      put = None;
      output = verdict_text verdict;
      line = line_of (stand_report image bound m.stand m.begun);
    }

-- The verdict tells the first clash of each kind in that run.
pub record IsVerdict (image : Image) (input : List ℕ) (harts bound : ℕ)
    (verdict : Verdict) : Type 0 where
  pub read : IsFirstOf Read (machine_opening image input harts) bound verdict.read
  pub write : IsFirstOf Write (machine_opening image input harts) bound verdict.write

-- ---- an image that is put or listed

-- The bytes of an image are put under a name.
abbrev pub built : List ℕ → List ℕ → Image → Outcome
built name bytes image =
    record {
      status = Done;
      put = Some (record { name = name; bytes = bytes });
      output = [];
      line = line_of (reports.Built (vec_len image.code));
    }

-- These bytes are put under a name.
abbrev pub wrote : List ℕ → List ℕ → Outcome
wrote name bytes =
    record {
      status = Done;
      put = Some (record { name = name; bytes = bytes });
      output = [];
      line = line_of (reports.Wrote (length bytes));
    }

-- One line for each word of code, from an address on.
abbrev pub listing : ℕ → List ℕ → List ℕ
listing address [] = []
listing address (word ∷ words) = lines.line_of address word ++ listing (address + 4) words

abbrev pub listed : Image → Outcome
listed image =
    record {
      status = Done;
      put = None;
      output = listing 0 image.code.items;
      line = line_of (reports.Listed (vec_len image.code));
    }

-- ---- each command

-- The source is refused, and so is the call.
pub record RefusesSource (source : List ℕ) (outcome : Outcome) : Type 0 where
  pub line : List ℕ
  pub refused : IsRefusedBy source line
  pub is : outcome ≡ silent Refused line

-- The bytes are no image, and the call is refused.
pub record RefusesImage (bytes : List ℕ) (outcome : Outcome) : Type 0 where
  pub report : Report
  pub refused : IsNoImageAs bytes report
  pub is : outcome ≡ silent ImageRefused (line_of report)

-- The bytes are the file of no image, and the call is refused.
pub record RefusesElf (bytes : List ℕ) (outcome : Outcome) : Type 0 where
  pub report : Report
  pub refused : IsNoElfAs bytes report
  pub is : outcome ≡ silent ElfRefused (line_of report)

-- a name is asked for, but the source, which has an image, has no shared variable of that name
pub record LacksGlobal (source : List ℕ) (show : Option Text) (outcome : Outcome) : Type 0 where
  pub name : Text
  pub asked : show ≡ Some name
  pub short : length source ≤ most_text_bytes
  pub none : HasGlobal source name None
  pub is : outcome ≡ silent Refused (no_global_line name)

-- The variable of the given name, if a name is given.
abbrev pub IsShown : List ℕ → Option Text → Option Row → Type 0
IsShown source None None = Unit {0}
IsShown source (Some name) (Some row) = HasGlobal source name (Some row)
IsShown source _ _ = ⊥

-- The most numbers of an input, beside this many globals: 65,536, and with the globals 524,288.
abbrev pub most_numbers : ℕ → ℕ
most_numbers globals = min 65536 (most_data_words - globals)

-- The input text is refused beside this many globals, and so is the call.
pub record RefusesInputBeside (globals : ℕ) (text : List ℕ) (outcome : Outcome) : Type 0 where
  pub fault : InputFault
  pub refused : input_of (most_numbers globals) text ≡ Err fault
  pub report : Report
  pub says : input_report_of fault ≡ Some report
  pub is : outcome ≡ silent InputRefused (line_of report)

-- The numbers that an input text gives to the machine of an image, or why it is refused.
abbrev pub numbers_for : Image → List ℕ → Result (List ℕ) InputFault
numbers_for image text = input_of (most_numbers (vec_len image.globals)) text

-- The input text is refused for an image, and so is the call.
abbrev pub RefusesInput : Image → List ℕ → Outcome → Type 0
RefusesInput image text outcome = RefusesInputBeside (vec_len image.globals) text outcome

-- The machine of an image ran on the numbers of the text, and this was written of the run.
pub record RunsOn (image : Image) (text : List ℕ) (harts cycles : ℕ) (writing : Writing)
    (outcome : Outcome) : Type 0 where
  pub input : List ℕ
  pub numbers : numbers_for image text ≡ Ok input
  pub is : outcome ≡ ran image input harts cycles writing

-- The outcome for an image and an input text.
abbrev pub EndsOn : Image → List ℕ → ℕ → ℕ → Writing → Outcome → Type 0
EndsOn image text harts cycles writing outcome = RefusesInput image text outcome
    ⊎ RunsOn image text harts cycles writing outcome

-- An image of the source was run, and the variable was shown; or the input was refused.
pub record RunsSource (source text : List ℕ) (harts cycles : ℕ) (show : Option Text)
    (outcome : Outcome) : Type 0 where
  pub image : Image
  pub compiled : IsFaithful source image
  pub shown : Option Row
  pub is_shown : IsShown source show shown
  pub ends : EndsOn image text harts cycles (Prints shown) outcome

-- An image of the source was run, and its run was traced, with the events of the source's
-- operations; or the input was refused.
pub record TracesSource (source text : List ℕ) (harts cycles : ℕ) (outcome : Outcome)
    : Type 0 where
  pub image : Image
  pub compiled : IsFaithful source image
  pub events : TellsEvents source image
  pub ends : EndsOn image text harts cycles Traces outcome

-- The machine of an image ran on the numbers of the text, and was audited.
pub record AuditsOn (image : Image) (text : List ℕ) (harts cycles : ℕ)
    (outcome : Outcome) : Type 0 where
  pub input : List ℕ
  pub numbers : numbers_for image text ≡ Ok input
  pub verdict : Verdict
  pub is_verdict : IsVerdict image input harts cycles verdict
  pub is : outcome ≡ audited image input harts cycles verdict

-- The outcome of an audit for an image and an input text.
abbrev pub EndsAudit : Image → List ℕ → ℕ → ℕ → Outcome → Type 0
EndsAudit image text harts cycles outcome = RefusesInput image text outcome
    ⊎ AuditsOn image text harts cycles outcome

-- An image of the source was run and audited, or the input was refused.
pub record AuditsSource (source text : List ℕ) (harts cycles : ℕ) (outcome : Outcome) : Type 0 where
  pub image : Image
  pub compiled : IsFaithful source image
  pub ends : EndsAudit image text harts cycles outcome

-- The bytes of an image of the source, which tells the events of the source's operations, are put
-- under a name.
pub record PutsImage (source name : List ℕ) (outcome : Outcome) : Type 0 where
  pub image : Image
  pub compiled : IsFaithful source image
  pub events : TellsEvents source image
  pub bytes : List ℕ
  pub spelled : IsImageOf bytes image
  pub is : outcome ≡ built name bytes image

-- The image of the bytes was run, or the input was refused.
pub record RunsImage (bytes text : List ℕ) (harts cycles : ℕ) (outcome : Outcome) : Type 0 where
  pub image : Image
  pub spelled : IsImageOf bytes image
  pub ends : EndsOn image text harts cycles (Prints None) outcome

-- The code of the image of the bytes is listed.
pub record ListsImage (bytes : List ℕ) (outcome : Outcome) : Type 0 where
  pub image : Image
  pub spelled : IsImageOf bytes image
  pub is : outcome ≡ listed image

-- The ELF file of the image of the bytes is put under a name.
pub record PutsElf (bytes name : List ℕ) (outcome : Outcome) : Type 0 where
  pub image : Image
  pub spelled : IsImageOf bytes image
  pub file : List ℕ
  pub made : IsElfOf file image
  pub is : outcome ≡ wrote name file

-- The bytes of the image whose ELF file was read are put under a name.
pub record PutsFromElf (file name : List ℕ) (outcome : Outcome) : Type 0 where
  pub image : Image
  pub made : IsElfOf file image
  pub bytes : List ℕ
  pub spelled : IsImageOf bytes image
  pub is : outcome ≡ wrote name bytes

-- ---- a replay

-- The status and the report for how a program ends under a trace of so many cycles.
abbrev pub replay_status : End → Status
replay_status ends.Finished = Done
replay_status ends.Running = CycleBound
replay_status (ends.Faulted site processor) = SourceFault

abbrev pub replay_report : List (ℕ × ℕ × ℕ) → End → ℕ → Report
replay_report sites ends.Finished cycles = reports.Finished cycles
replay_report sites ends.Running cycles = reports.Stopped cycles
replay_report sites (ends.Faulted site processor) cycles =
    fault_report (slice_get sites site) processor cycles

-- The outcome where a trace is accepted.
abbrev pub replayed : List (ℕ × ℕ × ℕ) → Replayed → ℕ → Outcome
replayed sites run cycles =
    record {
      status = replay_status run.end;
      put = None;
      output = run.output.items;
      line = line_of (replay_report sites run.end cycles);
    }

-- The outcome for the answer of a replay. Want of memory has none.
abbrev pub answered : List (ℕ × ℕ × ℕ) → Result Replayed ReplayFault → ℕ → Option Outcome
answered sites (Ok run) cycles = Some (replayed sites run cycles)
answered sites (Err fault) cycles =
    option_map (λ report. silent TraceRefused (line_of report)) (trace_report_of fault)

-- The bytes are no trace text, and the call is refused for the first line with which none goes on.
pub record RefusesTrace (bytes : List ℕ) (outcome : Outcome) : Type 0 where
  pub line : ℕ
  pub bad : IsBadLine IsTraceText line bytes
  pub is : outcome ≡ silent TraceRefused (line_of (reports.Refused (reasons.BadTrace line)))

-- The program was run on the numbers of the text under the rounds of a trace. What is written is
-- the answer: the run's output and status, or the first round that isn't possible or is late.
pub record AnswersOn (program : ProgramTree) (facts : Facts) (text : List ℕ)
    (harts cycles : ℕ) (lines : List Told) (outcome : Outcome) : Type 0 where
  pub input : List ℕ
  pub numbers : input_of (most_numbers (length (words_by program facts))) text ≡ Ok input
  pub answer : Result Replayed ReplayFault
  pub is_answer : IsAnswerFor program facts input harts
      (schedule_of harts (moments_of lines) cycles) answer
  pub is : answered (sites_by program facts) answer cycles ≡ Some outcome

-- The bytes are a trace, and the input was refused or the program was run.
pub record ReplaysTrace (program : ProgramTree) (facts : Facts) (bytes text : List ℕ)
    (outcome : Outcome) : Type 0 where
  pub harts : ℕ
  pub cycles : ℕ
  pub lines : List Told
  pub told : IsTrace harts cycles lines bytes
  pub ends : RefusesInputBeside (length (words_by program facts)) text outcome
      ⊎ AnswersOn program facts text harts cycles lines outcome

-- The outcome for a program, the bytes of a trace and an input text.
abbrev pub EndsReplay : ProgramTree → Facts → (bytes text : List ℕ) → Outcome → Type 0
EndsReplay program facts bytes text outcome =
    RefusesTrace bytes outcome ⊎ ReplaysTrace program facts bytes text outcome

-- The program of the source was run under the schedule of a trace, or the trace or the input was
-- refused.
pub record ReplaysSource (source bytes text : List ℕ) (outcome : Outcome) : Type 0 where
  pub short : length source ≤ most_text_bytes
  pub program : ProgramTree
  pub facts : Facts
  pub checked : IsChecked source program facts
  pub fits : Fits (tables_by program facts) program.items
  pub ends : EndsReplay program facts bytes text outcome

-- The text of the fair lock is given.
abbrev pub gave_lock : Outcome
gave_lock =
    record { status = Done; put = None; output = lock_bytes; line = line_of (reports.Wrote 205) }

-- A generated text is run by so many harts and for at most so many cycles, and this variable is
-- shown.
abbrev pub test_harts : ℕ
test_harts = 64

abbrev pub test_cycles : ℕ
test_cycles = 4294967295

abbrev pub test_shown : Option Text
test_shown = Some (codes "c")

-- The outcome of a command, for the bytes of its file, those of the trace that it reads beside it,
-- and those of the input. A generated text is run without input numbers.
abbrev pub ComesTo : Command → (bytes trace text : List ℕ) → Outcome → Type 0
ComesTo (Run file harts cycles show) source trace text outcome =
    RefusesSource source outcome ⊎ LacksGlobal source show outcome
    ⊎ RunsSource source text harts cycles show outcome
ComesTo (Build file image) source trace text outcome = RefusesSource source outcome
    ⊎ PutsImage source image outcome
ComesTo (Exec image harts cycles) bytes trace text outcome = RefusesImage bytes outcome
    ⊎ RunsImage bytes text harts cycles outcome
ComesTo (ListCode image) bytes trace text outcome = RefusesImage bytes outcome
    ⊎ ListsImage bytes outcome
ComesTo (Elf image file) bytes trace text outcome = RefusesImage bytes outcome
    ⊎ PutsElf bytes file outcome
ComesTo (Unelf file image) bytes trace text outcome = RefusesElf bytes outcome
    ⊎ PutsFromElf bytes image outcome
ComesTo (Audit file harts cycles) source trace text outcome = RefusesSource source outcome
    ⊎ AuditsSource source text harts cycles outcome
ComesTo (Trace file harts cycles) source trace text outcome = RefusesSource source outcome
    ⊎ TracesSource source text harts cycles outcome
ComesTo (Replay file name) source trace text outcome = RefusesSource source outcome
    ⊎ ReplaysSource source trace text outcome
ComesTo (Selftest statements) source trace text outcome =
    RefusesSource source outcome ⊎ LacksGlobal source test_shown outcome
    ⊎ RunsSource source [] test_harts test_cycles test_shown outcome
ComesTo Locks bytes trace text outcome = outcome ≡ gave_lock
