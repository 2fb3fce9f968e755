-- The report lines.
use Rattle.std.specs.Prelude.{ℕ, Bool, true, false, List, [], ◌∷◌, ◌++◌, ◌==◌, if◌then◌else◌, codes}
use Rattle.std.specs.Prelude.{flat_map, Option, Some, None}
use Rattle.std.specs.Fmt.{decimal, signed_decimal}
use Rattle.fk_num.specs.Word.{signed}
use Rattle.fk_syntax.specs.declared.place.Place.{Place}
use Rattle.fk_asm.specs.Listing.{eight_digits}
use Rattle.fk_audit.specs.declared.verdict.Clash.{Clash}
use Rattle.fk_audit.specs.declared.verdict.Verdict.{Verdict}
use Rattle.fk_top.specs.declared.kinds.FaultKind.{FaultKind}
use Rattle.fk_top.specs.declared.kinds.FaultKind.TheVariants as fault
use Rattle.fk_top.specs.declared.kinds.TrapKind.{TrapKind}
use Rattle.fk_top.specs.declared.kinds.TrapKind.TheVariants as trap
use Rattle.fk_top.specs.declared.reason.Reason.{Reason}
use Rattle.fk_top.specs.declared.reason.Reason.TheVariants as reasons
use Rattle.fk_top.specs.declared.report.Report.{Report}
use Rattle.fk_top.specs.declared.report.Report.TheVariants.{Finished, Built, Listed, Wrote}
use Rattle.fk_top.specs.declared.report.Report.TheVariants.{Fault, Stopped, Trap, Refused}
use Rattle.fk_top.specs.declared.report.Report.TheVariants.{CommandLine, ReadFault}

-- The fault of an operation, by its kind. Most kinds have none.
abbrev pub fault_kind : ℕ → FaultKind
fault_kind kind =
    if kind == 12 then fault.BadAddress
    else if kind == 22 then fault.CallDepth
    else if kind == 25 then fault.GroupSpace
    else if kind == 27 then fault.GroupSpace
    else fault.Other

-- The name of a fault.
abbrev pub fault_name : FaultKind → List ℕ
fault_name fault.BadAddress = codes "BadAddress"
fault_name fault.CallDepth = codes "CallDepth"
fault_name fault.GroupSpace = codes "GroupSpace"
fault_name fault.Other = codes "Fault"

-- The traps of the machine, numbered from 1 to 6.
abbrev pub trap_kind : ℕ → TrapKind
trap_kind number =
    if number == 1 then trap.Fetch
    else if number == 2 then trap.Unknown
    else if number == 3 then trap.Misaligned
    else if number == 4 then trap.Access
    else if number == 5 then trap.Ecall
    else trap.Ebreak

-- The name of a trap.
abbrev pub trap_name : TrapKind → List ℕ
trap_name trap.Fetch = codes "Fetch"
trap_name trap.Unknown = codes "Unknown"
trap_name trap.Misaligned = codes "Misaligned"
trap_name trap.Access = codes "Access"
trap_name trap.Ecall = codes "Ecall"
trap_name trap.Ebreak = codes "Ebreak"

-- A line and a column, with a colon between them.
abbrev pub place_text : Place → List ℕ
place_text place = decimal place.line ++ 58 ∷ decimal place.column

-- The text of a refusal with this reason.
abbrev pub reason_text : Reason → List ℕ
reason_text (reasons.BadByte place) = codes "refused 1 BadByte at " ++ place_text place
reason_text (reasons.OpenComment place) = codes "refused 2 OpenComment at " ++ place_text place
reason_text (reasons.OpenString place) = codes "refused 3 OpenString at " ++ place_text place
reason_text (reasons.WideNumber place) = codes "refused 4 WideNumber at " ++ place_text place
reason_text (reasons.Unexpected place) = codes "refused 5 Unexpected at " ++ place_text place
reason_text reasons.EndOfText = codes "refused 6 EndOfText"
reason_text (reasons.Nesting place) = codes "refused 7 Nesting at " ++ place_text place
reason_text (reasons.Rule place number) =
    codes "refused 8 Rule " ++ decimal number ++ codes " at " ++ place_text place
reason_text (reasons.TooManySites count) = codes "refused 9 TooManySites " ++ decimal count
reason_text (reasons.GlobalsTooLarge words) = codes "refused 11 GlobalsTooLarge " ++ decimal words
reason_text (reasons.SourceTooLong bytes) = codes "refused 12 SourceTooLong " ++ decimal bytes
reason_text reasons.Magic = codes "refused 13 Magic"
reason_text (reasons.Version version) = codes "refused 14 Version " ++ decimal version
reason_text (reasons.Short bytes wanted) =
    codes "refused 15 Short " ++ decimal bytes ++ codes " " ++ decimal wanted
reason_text (reasons.LongTail wanted) = codes "refused 16 LongTail " ++ decimal wanted
reason_text (reasons.BadTable entry) = codes "refused 17 BadTable " ++ decimal entry
reason_text (reasons.BadWord word) = codes "refused 18 BadWord " ++ decimal word
reason_text (reasons.NotANumber word) = codes "refused 19 NotANumber " ++ decimal word
reason_text (reasons.OutOfRange word) = codes "refused 20 OutOfRange " ++ decimal word
reason_text (reasons.TooMany word) = codes "refused 21 TooMany " ++ decimal word
reason_text (reasons.BadTrace line) = codes "refused 24 BadTrace " ++ decimal line
reason_text (reasons.NotPossible round) = codes "refused 25 NotPossible " ++ decimal round
reason_text (reasons.Pace round processor) =
    codes "refused 26 Pace " ++ decimal round ++ codes " " ++ decimal processor
reason_text (reasons.ElfHeader offset) = codes "refused 27 ElfHeader " ++ decimal offset
reason_text (reasons.ElfShort bytes wanted) =
    codes "refused 28 ElfShort " ++ decimal bytes ++ codes " " ++ decimal wanted
reason_text (reasons.ElfTail wanted) = codes "refused 29 ElfTail " ++ decimal wanted
reason_text reasons.ElfSizes = codes "refused 30 ElfSizes"
reason_text (reasons.ElfTable entry) = codes "refused 31 ElfTable " ++ decimal entry

abbrev pub text_of : Report → List ℕ
text_of (Finished cycles) = codes "finished after " ++ decimal cycles ++ codes " cycles"
text_of (Built words) = codes "built " ++ decimal words ++ codes " words"
text_of (Listed words) = codes "listed " ++ decimal words ++ codes " words"
text_of (Wrote bytes) = codes "wrote " ++ decimal bytes ++ codes " bytes"
text_of (Fault kind place processor cycles) =
    codes "fault " ++ fault_name kind ++ codes " at " ++ place_text place
    ++ codes " by processor " ++ decimal processor ++ codes " after " ++ decimal cycles
    ++ codes " cycles"
text_of (Stopped cycles) = codes "stopped after " ++ decimal cycles ++ codes " cycles"
text_of (Trap kind pc hart cycles) =
    codes "trap " ++ trap_name kind ++ codes " at 0x" ++ eight_digits pc
    ++ codes " by hart " ++ decimal hart ++ codes " after " ++ decimal cycles ++ codes " cycles"
text_of (Refused reason) = reason_text reason
text_of CommandLine = codes "refused command line"
text_of ReadFault = codes "read fault"

-- The line of a report ends with a newline.
abbrev pub line_of : Report → List ℕ
line_of report = text_of report ++ 10 ∷ []

-- The line where the private frame of a function has this many words, which are too many.
abbrev pub frame_line : List ℕ → ℕ → List ℕ
frame_line name words = codes "refused 10 FrameTooLarge " ++ name ++ 32 ∷ decimal words ++ 10 ∷ []

-- The line where the source has no shared variable of a name.
abbrev pub no_global_line : List ℕ → List ℕ
no_global_line name = codes "refused 23 NoGlobal " ++ name ++ 10 ∷ []

-- A word as a signed or an unsigned number, with a blank before it.
abbrev pub word_text : Bool → ℕ → List ℕ
word_text true word = 32 ∷ signed_decimal (signed word)
word_text false word = 32 ∷ decimal word

abbrev pub words_text : Bool → List ℕ → List ℕ
words_text are_signed words = flat_map (word_text are_signed) words

-- The line that shows a variable: its name, and its words as numbers.
abbrev pub show_line : List ℕ → Bool → List ℕ → List ℕ
show_line name are_signed words = name ++ codes " =" ++ words_text are_signed words ++ 10 ∷ []

-- ---- the text of an audit

-- The PRAM that a run needed, by its first clash of reads and its first clash of writes.
abbrev pub pram_name : Option Clash → Option Clash → List ℕ
pram_name None None = codes "EREW"
pram_name (Some read) None = codes "CREW"
pram_name read (Some write) = codes "CRCW"

abbrev pub clash_text : Option Clash → List ℕ
clash_text None = codes " none"
clash_text (Some clash) =
    codes " " ++ decimal clash.cycle ++ codes " 0x" ++ eight_digits clash.address

abbrev pub verdict_text : Verdict → List ℕ
verdict_text v =
    codes "verdict " ++ pram_name v.read v.write ++ 10 ∷ codes "read" ++ clash_text v.read
    ++ 10 ∷ codes "write" ++ clash_text v.write ++ 10 ∷ []
