-- Endings of the code as outcomes.
use Rattle.std.specs.Prelude.{ℕ, List, None}
use Rattle.std.specs.Option.{option_map}
use Rattle.fk_layout_globals.specs.Rows.{Row}
use Rattle.fk_machine.specs.Cycle.{Machine}
use Rattle.fk_machine.specs.Run.{after, output_in}
use Rattle.fk_machine.specs.View.{machine_of}
use Rattle.fk_trace.specs.Early.{trace_of}
use Rattle.fk_top.specs.declared.ending.Ending.{Ending}
use Rattle.fk_top.specs.declared.ending.Told.{Told}
use Rattle.fk_top.specs.declared.ending.PutFile.{PutFile}
use Rattle.fk_top.specs.declared.ending.LastLine.{LastLine}
use Rattle.fk_top.specs.declared.machine_run.MachineRun.{MachineRun}
use Rattle.fk_top.specs.declared.machine_run.RunText.{RunText}
use Rattle.fk_top.specs.declared.machine_run.RunText.TheVariants as texts
use Rattle.fk_top.specs.declared.variable.Variable.{Variable}
use Rattle.fk_top.specs.declared.ending.Ending.TheVariants as endings
use Rattle.fk_top.specs.declared.ending.LastLine.TheVariants.{Reported, FrameTooLarge, NoGlobal}
use Rattle.fk_top.specs.Report.{line_of, frame_line, no_global_line}
use Rattle.fk_top.specs.Outcome.{Put, Outcome, Writing, Prints, Traces, status_of, stand_report}
use Rattle.fk_top.specs.Outcome.{with_shown}

abbrev pub put_of : PutFile → Put
put_of file = record { name = file.name.now; bytes = file.bytes.items }

abbrev pub variable_of : Variable → Row
variable_of v = record { name = v.name.now; first = v.first; words = v.words; signed = v.signed }

abbrev pub last_line : LastLine → List ℕ
last_line (Reported report) = line_of report
last_line (FrameTooLarge name words) = frame_line name.items words
last_line (NoGlobal name) = no_global_line name.now

abbrev pub told_outcome : Told → Outcome
told_outcome e = record {
  status = e.status;
  put = option_map put_of e.put;
  output = e.output.items;
  line = last_line e.line;
}

-- ---- runs

abbrev pub writing_of : RunText → Writing
writing_of (texts.Output variable) = Prints (option_map variable_of variable)
writing_of texts.Trace = Traces

-- What is written of a machine's next cycles.
abbrev pub run_text : ℕ → Machine → Writing → List ℕ
run_text bound m (Prints shown) = with_shown (output_in bound m) shown (after bound m)
run_text bound m Traces = trace_of bound m

-- What a run comes to.
abbrev pub run_outcome : MachineRun → Outcome
run_outcome r =
    let m = machine_of r.machine in
    let end = after r.bound m in
    record {
      status = status_of end.stand;
      put = None;
      output = run_text r.bound m (writing_of r.text);
      line = line_of (stand_report r.image r.bound end.stand end.begun);
    }

abbrev pub outcome_of : Ending → Outcome
outcome_of (endings.Told told) = told_outcome told
outcome_of (endings.Runs run) = run_outcome run
