-- The reports of refusals.
use Rattle.std.specs.Prelude.{◌≡◌, ℕ, List, Option, Some, None}
use Rattle.fk_image.specs.declared.fault.ImageFault.{ImageFault}
use Rattle.fk_image.specs.declared.fault.ImageFault.TheVariants as fault
use Rattle.fk_image.specs.Refusals as images
use Rattle.fk_elf.specs.declared.fault.ElfFault.{ElfFault}
use Rattle.fk_elf.specs.declared.fault.ElfFault.TheVariants as elf
use Rattle.fk_elf.specs.Refusals as files
use Rattle.fk_top_input.specs.declared.fault.InputFault.{InputFault}
use Rattle.fk_top_input.specs.declared.fault.InputFault.TheVariants as input
use Rattle.fk_replay_text.specs.declared.fault.ReplayFault.{ReplayFault}
use Rattle.fk_replay_text.specs.declared.fault.ReplayFault.TheVariants as trace
use Rattle.fk_compile_text.specs.declared.refusal.Refusal.{Refusal}
use Rattle.fk_compile_text.specs.declared.refusal.Refusal.TheVariants as refusal
use Rattle.fk_compile_text.specs.Refusal as sources
use Rattle.fk_top.specs.declared.reason.Reason.{Reason}
use Rattle.fk_top.specs.declared.reason.Reason.TheVariants as reasons
use Rattle.fk_top.specs.declared.report.Report.{Report}
use Rattle.fk_top.specs.declared.report.Report.TheVariants.{Refused}
use Rattle.fk_top.specs.Report.{line_of, frame_line}

-- The line of a refusal with this reason.
abbrev pub reason_line : Reason → List ℕ
reason_line reason = line_of (Refused reason)

-- The line that reports why a source is refused. `Memory` is no refusal, and has no line.
abbrev pub refusal_line : Refusal → Option (List ℕ)
refusal_line (refusal.BadByte place) = Some (reason_line (reasons.BadByte place))
refusal_line (refusal.OpenComment place) = Some (reason_line (reasons.OpenComment place))
refusal_line (refusal.OpenString place) = Some (reason_line (reasons.OpenString place))
refusal_line (refusal.WideNumber place) = Some (reason_line (reasons.WideNumber place))
refusal_line (refusal.Unexpected place) = Some (reason_line (reasons.Unexpected place))
refusal_line refusal.EndOfText = Some (reason_line reasons.EndOfText)
refusal_line (refusal.Nesting place) = Some (reason_line (reasons.Nesting place))
refusal_line (refusal.Rule place number) = Some (reason_line (reasons.Rule place number))
refusal_line (refusal.TooManySites count) = Some (reason_line (reasons.TooManySites count))
refusal_line (refusal.FrameTooLarge name words) = Some (frame_line name.items words)
refusal_line (refusal.GlobalsTooLarge words) = Some (reason_line (reasons.GlobalsTooLarge words))
refusal_line (refusal.SourceTooLong bytes) = Some (reason_line (reasons.SourceTooLong bytes))
refusal_line (refusal.Memory e) = None

-- The report of why bytes are no image. `Memory` has none.
abbrev pub image_report_of : ImageFault → Option Report
image_report_of fault.Magic = Some (Refused reasons.Magic)
image_report_of (fault.Version version) = Some (Refused (reasons.Version version))
image_report_of (fault.Short bytes wanted) = Some (Refused (reasons.Short bytes wanted))
image_report_of (fault.LongTail wanted) = Some (Refused (reasons.LongTail wanted))
image_report_of (fault.BadTable entry) = Some (Refused (reasons.BadTable entry))
image_report_of (fault.BadWord word) = Some (Refused (reasons.BadWord word))
image_report_of (fault.Memory e) = None

-- The report of why bytes are the file of no image. `Memory` has none.
abbrev pub elf_report_of : ElfFault → Option Report
elf_report_of (elf.ElfHeader offset) = Some (Refused (reasons.ElfHeader offset))
elf_report_of (elf.ElfShort bytes wanted) = Some (Refused (reasons.ElfShort bytes wanted))
elf_report_of (elf.ElfTail wanted) = Some (Refused (reasons.ElfTail wanted))
elf_report_of elf.ElfSizes = Some (Refused reasons.ElfSizes)
elf_report_of (elf.ElfTable entry) = Some (Refused (reasons.ElfTable entry))
elf_report_of (elf.Memory e) = None

-- The report of why an input text is refused. `Memory` has none.
abbrev pub input_report_of : InputFault → Option Report
input_report_of (input.NotANumber word) = Some (Refused (reasons.NotANumber word))
input_report_of (input.OutOfRange word) = Some (Refused (reasons.OutOfRange word))
input_report_of (input.TooMany word) = Some (Refused (reasons.TooMany word))
input_report_of input.Memory = None

-- The report of why a trace is refused. `Memory` has none.
abbrev pub trace_report_of : ReplayFault → Option Report
trace_report_of (trace.BadTrace line) = Some (Refused (reasons.BadTrace line))
trace_report_of (trace.NotPossible round) = Some (Refused (reasons.NotPossible round))
trace_report_of (trace.Pace round processor) = Some (Refused (reasons.Pace round processor))
trace_report_of trace.Memory = None

-- The source is refused, and the line says why.
pub record IsRefusedBy (source : List ℕ) (line : List ℕ) : Type 0 where
  pub refusal : Refusal
  pub refused : sources.IsRefusedText source refusal
  pub says : refusal_line refusal ≡ Some line

-- The bytes are no image, and the report says why.
pub record IsNoImageAs (bytes : List ℕ) (report : Report) : Type 0 where
  pub fault : ImageFault
  pub refused : images.IsRefusedImage bytes fault
  pub says : image_report_of fault ≡ Some report

-- The bytes are the file of no image, and the report says why.
pub record IsNoElfAs (bytes : List ℕ) (report : Report) : Type 0 where
  pub fault : ElfFault
  pub refused : files.IsRefusedElf bytes fault
  pub says : elf_report_of fault ≡ Some report
