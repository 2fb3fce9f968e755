-- Whole calls: why each ends as it does, and what the store and the sinks have after it.
use Rattle.std.specs.Prelude.{◌+◌}
use Rattle.std.specs.Prelude.{◌≡◌, ◌≢◌, ℕ, ◌≤◌, ◌⊎◌, List, [], length, vec_len, Option, Some, None}
use Rattle.std.specs.Prelude.{IsSome, Result, Ok, Err, take}
use Rattle.std.specs.Io.KnownBytes.{append_known}
use Rattle.fk_num.specs.Limits.{most_text_bytes}
use Rattle.fk_ports.specs.Faults.{HasRisen}
use Rattle.fk_ports.specs.Known.{TakesPrefix, GivesAtMost, MovesFirst}
use Rattle.fk_ports.specs.Files.{Files, file, with_file_known, AppendsFile, FetchFaults, LacksFile}
use Rattle.fk_syntax.specs.declared.facts.Facts.{Facts}
use Rattle.fk_syntax.specs.Program.{ProgramTree}
use Rattle.fk_image.specs.declared.Image.{Image}
use Rattle.fk_image.specs.Spelling.{IsImageOf}
use Rattle.fk_elf.specs.Files.{IsElfOf}
use Rattle.fk_machine.specs.Run.{machine}
use Rattle.fk_replay_text.specs.Rounds.{schedule_of}
use Rattle.fk_replay_text.specs.Trace.{IsTrace, IsTraceText, Told, moments_of}
use Rattle.fk_replay_text.specs.declared.fault.ReplayFault.{ReplayFault}
use Rattle.fk_replay_text.specs.declared.fault.ReplayFault.TheVariants as faults
use Rattle.fk_replay.specs.declared.end.Replayed.{Replayed}
use Rattle.fk_replay_source.specs.Answer.{IsAnswerFor}
use Rattle.fk_layout_globals.specs.Rows.{Row}
use Rattle.fk_compile_text.specs.Text.{HasLayout, IsChecked}
use Rattle.fk_compile.specs.Faithful.{IsFaithful, words_by}
use Rattle.fk_top_input.specs.Input.{input_of}
use Rattle.fk_top_words.specs.Command.{Command, Run, Build, Exec, ListCode, Elf}
use Rattle.fk_top_words.specs.Command.{Unelf, Audit, Trace, Replay, Selftest, Locks, Reads}
use Rattle.fk_top_selftest.specs.Generated.{generated}
use Rattle.fk_top.specs.declared.report.Report.TheVariants as reports
use Rattle.fk_top.specs.declared.status.Status.{Status}
use Rattle.fk_top.specs.declared.status.Status.TheVariants.{Done, Refused, Usage, ReadFault}
use Rattle.fk_top.specs.declared.status.Status.TheVariants.{WriteFault, Memory, SourceFault, Trap}
use Rattle.fk_top.specs.declared.status.Status.TheVariants.{ImageRefused, InputRefused}
use Rattle.fk_top.specs.declared.status.Status.TheVariants.{TraceRefused, ElfRefused}
use Rattle.fk_top.specs.Words.{IsRun, TakesInput, HasInput, Puts, IsPut, IsExec, IsReplay, IsFetch}
use Rattle.fk_top.specs.Words.{Origin, FirstOf, Generated, Nowhere, origin_of, trace_origin_of}
use Rattle.fk_top.specs.Words.{most_input, most_trace_bytes}
use Rattle.fk_top.specs.Report.{line_of}
use Rattle.fk_top.specs.Outcome.{Put, Outcome, silent, status_of, replay_status, IsShown}
use Rattle.fk_top.specs.Outcome.{most_numbers}
use Rattle.fk_top.specs.Outcome.{numbers_for, test_harts, test_cycles, test_shown, ComesTo}

-- ---- the outside, before and after a call

-- A fact before a call and after it.
pub record Change (A : Type 0) : Type 0 where
  pub before : A
  pub after : A

abbrev pub change_of : {S A : Type 0} → (S → A) → S → S → Change A
change_of tells old new = record { before = tells old; after = tells new }

abbrev pub IsSame : {A : Type 0} → Change A → Type 0
IsSame change = change.after ≡ change.before

-- A count of faults rose.
abbrev pub Rose : Change ℕ → Type 0
Rose count = HasRisen count.before count.after

-- What the input has left, if that is known, and its count of faults.
pub record Given : Type 0 where
  pub left : Change (Option (List ℕ))
  pub faults : Change ℕ

abbrev pub given_of : {S : Type 0} → (S → Option (List ℕ)) → (S → ℕ) → S → S → Given
given_of left faults old new =
    record { left = change_of left old new; faults = change_of faults old new }

-- What a call reads: its words; what the store has before it, if that is known; the store's count
-- of faults of `fetch`; and the input.
pub record Request : Type 0 where
  pub words : List (List ℕ)
  pub files : Option Files
  pub faults : Change ℕ
  pub input : Given

-- The request of these words to a store and an input. The functions give the store's files and its
-- count of faults.
abbrev pub request_of : {S : Type 0} → (S → Option Files) → (S → ℕ) → List (List ℕ) → S → S
    → Given → Request
request_of files fetch_faults words old new input =
    record {
      words = words;
      files = files old;
      faults = change_of fetch_faults old new;
      input = input;
    }

-- What a store has, if that is known, and its count of faults of `put`.
pub record Stored : Type 0 where
  pub files : Change (Option Files)
  pub faults : Change ℕ

abbrev pub stored_of : {S : Type 0} → (S → Option Files) → (S → ℕ) → S → S → Stored
stored_of files put_faults old new =
    record { files = change_of files old new; faults = change_of put_faults old new }

-- What a sink took, if that is known, and its count of faults.
pub record Sunk : Type 0 where
  pub taken : Change (Option (List ℕ))
  pub faults : Change ℕ

abbrev pub sunk_of : {S : Type 0} → (S → Option (List ℕ)) → (S → ℕ) → S → S → Sunk
sunk_of taken faults old new =
    record { taken = change_of taken old new; faults = change_of faults old new }

pub record Call : Type 0 where
  pub request : Request
  pub store : Stored
  pub out : Sunk
  pub err : Sunk

abbrev pub call_of : Request → Stored → Sunk → Sunk → Call
call_of request store out err = record { request = request; store = store; out = out; err = err }

-- The file that is put has its bytes, and every other name has what it had.
abbrev pub HasPut : Stored → Option Put → Type 0
HasPut store None = IsSame store.files
HasPut store (Some put) = store.files.after ≡ with_file_known store.files.before put.name put.bytes

-- The put failed, and the files are as they were.
pub record FailedToPut (store : Stored) (put : Option Put) : Type 0 where
  pub some : IsSome put
  pub rose : Rose store.faults
  pub same : IsSame store.files

abbrev pub Took : Sunk → List ℕ → Type 0
Took sink bytes = sink.taken.after ≡ append_known sink.taken.before bytes

-- A sink failed, and what it took is a prefix of the bytes.
pub record FailedIn (sink : Sunk) (bytes : List ℕ) : Type 0 where
  pub rose : Rose sink.faults
  pub prefix : TakesPrefix sink.taken.before sink.taken.after bytes

-- ---- why a call ends as it does

abbrev pub IsNoCommand : List (List ℕ) → Type 0
IsNoCommand words = (command : Command) → ¬ Reads words command

-- The file of an origin could not be read. A generated text has no file, and nowhere is none.
abbrev pub OriginFaults : Option Files → Origin → Change ℕ → Type 0
OriginFaults files (FirstOf file most) faults = FetchFaults files file faults.before faults.after
OriginFaults files (Generated statements) faults = ⊥
OriginFaults files Nowhere faults = ⊥

-- The bytes are those of an origin: the first ones of the file, if the store's files are known, or
-- the generated text. From nowhere there are none.
abbrev pub AreRead : Option Files → Origin → List ℕ → Type 0
AreRead files (FirstOf file most) bytes =
    AppendsFile files file most [] bytes × (length bytes ≤ most)
AreRead files (Generated statements) bytes = bytes ≡ generated statements
AreRead files Nowhere bytes = bytes ≡ []

-- The file of a command, or the trace beside it, could not be read, and nothing was taken from the
-- input.
pub record IsFileUnread (request : Request) (command : Command) : Type 0 where
  pub fault : OriginFaults request.files (origin_of command) request.faults
      ⊎ OriginFaults request.files (trace_origin_of command) request.faults
  pub left : IsSame request.input.left
  pub steady : IsSame request.input.faults

-- What a command reads from the store was read, but its input could not be read.
pub record IsInputUnread (request : Request) (command : Command) : Type 0 where
  pub takes : TakesInput command
  pub fetched : IsSame request.faults
  pub rose : Rose request.input.faults
  pub lost : GivesAtMost (most_input command) request.input.left.before request.input.left.after

-- The words are a command, but its file or its input could not be read.
pub record IsUnread (request : Request) : Type 0 where
  pub command : Command
  pub reads : Reads request.words command
  pub cause : IsFileUnread request command ⊎ IsInputUnread request command

-- The words are a command, and its bytes were read: the first ones of its file, if the store's
-- files are known, or its generated text; and so were those of the trace beside it. If the command
-- takes an input, then the first bytes of the input were read too, if these are known.
pub record HasRead (request : Request) (outcome : Outcome) : Type 0 where
  pub command : Command
  pub reads : Reads request.words command
  pub bytes : List ℕ
  pub are_read : AreRead request.files (origin_of command) bytes
  pub trace : List ℕ
  pub trace_is_read : AreRead request.files (trace_origin_of command) trace
  pub text : List ℕ
  pub first_input : MovesFirst
      (most_input command) request.input.left.before request.input.left.after [] text
  pub comes_to : ComesTo command bytes trace text outcome

-- Why a call has an outcome.
abbrev pub Ends : Request → Outcome → Type 0
Ends request outcome =
    (IsNoCommand request.words × (outcome ≡ silent Usage (line_of reports.CommandLine)))
    ⊎ (IsUnread request × (outcome ≡ silent ReadFault (line_of reports.ReadFault)))
    ⊎ HasRead request outcome

-- The call had an outcome of this status. The file of the outcome was put, and the sinks took all
-- of its bytes.
pub record HasEnded (call : Call) (status : Status) : Type 0 where
  pub outcome : Outcome
  pub status_is : outcome.status ≡ status
  pub cause : Ends call.request outcome
  pub put : HasPut call.store outcome.put
  pub out_took : Took call.out outcome.output
  pub err_took : Took call.err outcome.line

-- How a call is cut short. The put failed, and nothing was given. Or the put was done, if there was
-- one, and `out` failed, and nothing was reported. Or `out` took all of the output, and `err`
-- failed.
abbrev pub AreCut : Stored → Sunk → Sunk → Outcome → Type 0
AreCut store out err outcome =
    (FailedToPut store outcome.put × Took out [] × Took err [])
    ⊎ (HasPut store outcome.put × FailedIn out outcome.output × Took err [])
    ⊎ (HasPut store outcome.put × Took out outcome.output × FailedIn err outcome.line)

-- The call had an outcome, but the store or a sink failed.
pub record IsCut (call : Call) : Type 0 where
  pub outcome : Outcome
  pub cause : Ends call.request outcome
  pub cut : AreCut call.store call.out call.err outcome

-- there was no memory: at most so much was taken from the input as an input text may have, and one
-- byte more; nothing was put and nothing given
pub record IsOutOfMemory (call : Call) : Type 0 where
  pub took : GivesAtMost
      (most_text_bytes + 1) call.request.input.left.before call.request.input.left.after
  pub put : HasPut call.store None
  pub out_took : Took call.out []
  pub err_took : Took call.err []

-- A status has its cause.
abbrev pub HasCause : Call → Status → Type 0
HasCause call WriteFault = IsCut call
HasCause call Memory = IsOutOfMemory call
HasCause call status = HasEnded call status

-- ---- when each status is answered

-- The store failed in a put, or a sink failed.
abbrev pub FailsToWrite : Call → Type 0
FailsToWrite call =
    (IsPut call.request.words × Rose call.store.faults) ⊎ Rose call.out.faults
    ⊎ Rose call.err.faults

-- What failed is reported. If the status isn't WriteFault, no count of `put`, `out` or `err` rose.
-- If it is neither that nor ReadFault, the counts of `fetch` and of the input didn't rise either.
pub record TellsFaults (call : Call) (status : Status) : Type 0 where
  pub fetch : status ≢ WriteFault → status ≢ ReadFault → IsSame call.request.faults
  pub input : status ≢ WriteFault → status ≢ ReadFault → IsSame call.request.input.faults
  pub put : status ≢ WriteFault → IsSame call.store.faults
  pub out : status ≢ WriteFault → IsSame call.out.faults
  pub err : status ≢ WriteFault → IsSame call.err.faults

-- The store's files are known and don't have the file of an origin.
abbrev pub LacksOrigin : Option Files → Origin → Type 0
LacksOrigin files (FirstOf file most) = LacksFile files file
LacksOrigin files (Generated statements) = ⊥
LacksOrigin files Nowhere = ⊥

-- The words are a command, and the store's files are known and don't have a file that it reads.
pub record IsAbsent (request : Request) : Type 0 where
  pub command : Command
  pub reads : Reads request.words command
  pub lacks : LacksOrigin request.files (origin_of command)
      ⊎ LacksOrigin request.files (trace_origin_of command)

-- The statuses where such a file is absent.
abbrev pub IsOfAbsent : Status → Type 0
IsOfAbsent status = (status ≡ ReadFault) ⊎ (status ≡ WriteFault) ⊎ (status ≡ Memory)

-- The statuses for words that are no command.
abbrev pub IsOfNoCommand : Status → Type 0
IsOfNoCommand status = (status ≡ Usage) ⊎ (status ≡ WriteFault) ⊎ (status ≡ Memory)

-- The store's files are known, and the file of this name has these bytes.
pub record IsHeld (known : Option Files) (name bytes : List ℕ) : Type 0 where
  pub files : Files
  pub told : known ≡ Some files
  pub held : file files name ≡ Some bytes

-- The bytes are all those of an origin.
abbrev pub AreThere : Option Files → Origin → List ℕ → Type 0
AreThere files (FirstOf file most) bytes = IsHeld files file bytes
AreThere files (Generated statements) bytes = bytes ≡ generated statements
AreThere files Nowhere bytes = bytes ≡ []

-- The words are a command. The store has its file, with these bytes, or they are its generated
-- text; and it has the trace beside it. What is left of the input is this text, and no count of
-- faults rose in the call.
pub record IsInOrder (call : Call) (command : Command) (bytes trace text : List ℕ) : Type 0 where
  pub reads : Reads call.request.words command
  pub there : AreThere call.request.files (origin_of command) bytes
  pub trace_there : AreThere call.request.files (trace_origin_of command) trace
  pub left : TakesInput command → call.request.input.left.before ≡ Some text
  pub fetch_steady : ¬ Rose call.request.faults
  pub input_steady : TakesInput command → ¬ Rose call.request.input.faults
  pub put_steady : Puts command → ¬ Rose call.store.faults
  pub out_steady : ¬ Rose call.out.faults
  pub err_steady : ¬ Rose call.err.faults

-- A text of at most 1,048,576 bytes, which keeps the rules of the language and has a layout.
pub record IsText (source : List ℕ) : Type 0 where
  pub short : length source ≤ most_text_bytes
  pub laid : HasLayout source

-- The bytes of an image.
abbrev pub IsImage : List ℕ → Type 0
IsImage bytes = (image : Image) × IsImageOf bytes image

-- The bytes of the ELF file of an image.
abbrev pub IsElf : List ℕ → Type 0
IsElf bytes = (image : Image) × IsElfOf bytes image

-- What a command reads is in order: a text, which has the variable that is to be shown, an image,
-- or the ELF file of one. A command that reads nothing has nothing out of order.
abbrev pub IsReadable : Command → List ℕ → Type 0
IsReadable (Run file harts cycles show) source = IsText source × (shown : Option Row)
    × IsShown source show shown
IsReadable (Build file image) source = IsText source
IsReadable (Exec image harts cycles) bytes = IsImage bytes
IsReadable (ListCode image) bytes = IsImage bytes
IsReadable (Elf image file) bytes = IsImage bytes
IsReadable (Unelf file image) bytes = IsElf bytes
IsReadable (Audit file harts cycles) source = IsText source
IsReadable (Trace file harts cycles) source = IsText source
IsReadable (Replay file trace) source = IsText source
IsReadable (Selftest statements) source = IsText source × (shown : Option Row)
    × IsShown source test_shown shown
IsReadable Locks bytes = Unit {0}

-- The trace that a command reads is in order: its first 2^47 bytes are a trace text.
abbrev pub IsTraced : Command → List ℕ → Type 0
IsTraced (Replay file name) trace = IsTraceText (take most_trace_bytes trace)
IsTraced command trace = Unit {0}

-- The text has numbers, and no more than there may be beside this many globals.
abbrev pub IsInputBeside : ℕ → List ℕ → Type 0
IsInputBeside globals text = (numbers : List ℕ)
    × (input_of (most_numbers globals) text ≡ Ok numbers)

-- The input is in order beside the shared variables of a text.
abbrev pub IsInputOfText : List ℕ → List ℕ → Type 0
IsInputOfText source text = (program : ProgramTree) × (facts : Facts)
    × IsChecked source program facts × IsInputBeside (length (words_by program facts)) text

-- The input of a command is in order, beside the shared variables of its text or beside the globals
-- of its image.
abbrev pub IsAccepted : Command → List ℕ → List ℕ → Type 0
IsAccepted (Run file harts cycles show) source text = IsInputOfText source text
IsAccepted (Build file image) source text = Unit {0}
IsAccepted (Exec image harts cycles) bytes text =
    (read : Image) × IsImageOf bytes read × IsInputBeside (vec_len read.globals) text
IsAccepted (ListCode image) bytes text = Unit {0}
IsAccepted (Elf image file) bytes text = Unit {0}
IsAccepted (Unelf file image) bytes text = Unit {0}
IsAccepted (Audit file harts cycles) source text = IsInputOfText source text
IsAccepted (Trace file harts cycles) source text = IsInputOfText source text
IsAccepted (Replay file trace) source text = IsInputOfText source text
IsAccepted (Selftest statements) source text = Unit {0}
IsAccepted Locks bytes text = Unit {0}

-- The status for the machine of an image on the numbers of a text.
abbrev pub IsOfStand : Image → List ℕ → ℕ → ℕ → Status → Type 0
IsOfStand image text harts cycles status =
    (input : List ℕ) × (numbers_for image text ≡ Ok input)
    × (status ≡ status_of (machine image input harts cycles).stand)

-- The status for the machine of an image of a text.
abbrev pub IsOfRun : List ℕ → List ℕ → ℕ → ℕ → Status → Type 0
IsOfRun source text harts cycles status =
    (image : Image) × IsFaithful source image × IsOfStand image text harts cycles status

-- The status for the answer of a replay: that of how the program ends, or a refusal. Want of memory
-- has none here.
abbrev pub IsOfAnswer : Result Replayed ReplayFault → Status → Type 0
IsOfAnswer (Ok run) status = status ≡ replay_status run.end
IsOfAnswer (Err faults.Memory) status = ⊥
IsOfAnswer (Err fault) status = status ≡ TraceRefused

-- The status for the run of a text's program under the rounds of a trace.
pub record IsOfReplay (source trace text : List ℕ) (status : Status) : Type 0 where
  pub program : ProgramTree
  pub facts : Facts
  pub checked : IsChecked source program facts
  pub harts : ℕ
  pub cycles : ℕ
  pub lines : List Told
  pub told : IsTrace harts cycles lines (take most_trace_bytes trace)
  pub input : List ℕ
  pub numbers : input_of (most_numbers (length (words_by program facts))) text ≡ Ok input
  pub answer : Result Replayed ReplayFault
  pub is_answer : IsAnswerFor program facts input harts
      (schedule_of harts (moments_of lines) cycles) answer
  pub status_is : IsOfAnswer answer status

-- The statuses where all is in order: Memory, that of the run of an image of the source or of the
-- bytes, that of a replay, or Done.
abbrev pub IsOfAccepted : Command → (bytes trace text : List ℕ) → Status → Type 0
IsOfAccepted (Run file harts cycles show) source trace text status =
    (status ≡ Memory) ⊎ IsOfRun source text harts cycles status
IsOfAccepted (Build file image) source trace text status = (status ≡ Memory) ⊎ (status ≡ Done)
IsOfAccepted (Exec image harts cycles) bytes trace text status =
    (status ≡ Memory)
    ⊎ ((read : Image) × IsImageOf bytes read × IsOfStand read text harts cycles status)
IsOfAccepted (ListCode image) bytes trace text status = (status ≡ Memory) ⊎ (status ≡ Done)
IsOfAccepted (Elf image file) bytes trace text status = (status ≡ Memory) ⊎ (status ≡ Done)
IsOfAccepted (Unelf file image) bytes trace text status = (status ≡ Memory) ⊎ (status ≡ Done)
IsOfAccepted (Audit file harts cycles) source trace text status =
    (status ≡ Memory) ⊎ IsOfRun source text harts cycles status
IsOfAccepted (Trace file harts cycles) source trace text status =
    (status ≡ Memory) ⊎ IsOfRun source text harts cycles status
IsOfAccepted (Replay file name) source trace text status =
    (status ≡ Memory) ⊎ IsOfReplay source trace text status
IsOfAccepted (Selftest statements) source trace text status =
    (status ≡ Memory) ⊎ IsOfRun source [] test_harts test_cycles status
IsOfAccepted Locks bytes trace text status = (status ≡ Memory) ⊎ (status ≡ Done)

-- The statuses where what is read isn't in order.
abbrev pub IsOfUnreadable : Command → Status → Type 0
IsOfUnreadable (Run file harts cycles show) status = (status ≡ Memory) ⊎ (status ≡ Refused)
IsOfUnreadable (Build file image) status = (status ≡ Memory) ⊎ (status ≡ Refused)
IsOfUnreadable (Exec image harts cycles) status = (status ≡ Memory) ⊎ (status ≡ ImageRefused)
IsOfUnreadable (ListCode image) status = (status ≡ Memory) ⊎ (status ≡ ImageRefused)
IsOfUnreadable (Elf image file) status = (status ≡ Memory) ⊎ (status ≡ ImageRefused)
IsOfUnreadable (Unelf file image) status = (status ≡ Memory) ⊎ (status ≡ ElfRefused)
IsOfUnreadable (Audit file harts cycles) status = (status ≡ Memory) ⊎ (status ≡ Refused)
IsOfUnreadable (Trace file harts cycles) status = (status ≡ Memory) ⊎ (status ≡ Refused)
IsOfUnreadable (Replay file trace) status = (status ≡ Memory) ⊎ (status ≡ Refused)
IsOfUnreadable (Selftest statements) status = (status ≡ Memory) ⊎ (status ≡ Refused)
IsOfUnreadable Locks status = status ≡ Memory

-- The statuses where the file is in order and the trace isn't.
abbrev pub IsOfUntraced : Status → Type 0
IsOfUntraced status = (status ≡ Memory) ⊎ (status ≡ TraceRefused)

-- The statuses where what is read is in order and the input isn't.
abbrev pub IsOfUnaccepted : Status → Type 0
IsOfUnaccepted status = (status ≡ Memory) ⊎ (status ≡ InputRefused)

-- ---- what holds of a call and its status

pub record IsAnswer (call : Call) (status : Status) : Type 0 where
  -- Each status has its cause. The status, the bytes that were put, and those that `out` and `err`
  -- got are those of one image. It is faithful to the bytes that were fetched or generated, or
  -- these are its bytes or its ELF file.
  pub answer : HasCause call status
  -- Words that are no command.
  pub usage : status ≡ Usage → IsNoCommand call.request.words
  pub no_command : IsNoCommand call.request.words → IsOfNoCommand status
  -- A file that can't be read, and a write that fails.
  pub read_fault : status ≡ ReadFault → IsUnread call.request
  pub absent : IsAbsent call.request → IsOfAbsent status
  pub write_fault : status ≡ WriteFault → FailsToWrite call
  pub told : TellsFaults call status
  -- A trace is refused by `replay` alone.
  pub traced : status ≡ TraceRefused → IsReplay call.request.words
  -- Only a command that runs something faults, and no image of a text traps.
  pub source_fault : status ≡ SourceFault → IsRun call.request.words
  pub trap : status ≡ Trap → IsExec call.request.words
  -- Only a command that reads a file fetches, and nothing is taken for one that has no input.
  pub fetch_faults : ¬ IsFetch call.request.words → IsSame call.request.faults
  pub input : status ≡ InputRefused → HasInput call.request.words
  pub left : ¬ HasInput call.request.words → IsSame call.request.input.left
  pub input_faults : ¬ HasInput call.request.words → IsSame call.request.input.faults
  -- What is in order is not refused, and what isn't in order is refused: the file before the trace,
  -- and that before the input.
  pub complete : (command : Command) (bytes trace text : List ℕ)
      → IsInOrder call command bytes trace text → IsReadable command bytes
      → IsTraced command trace → IsAccepted command bytes text
      → IsOfAccepted command bytes trace text status
  pub refused : (command : Command) (bytes trace text : List ℕ)
      → IsInOrder call command bytes trace text → ¬ IsReadable command bytes
      → IsOfUnreadable command status
  pub trace_refused : (command : Command) (bytes trace text : List ℕ)
      → IsInOrder call command bytes trace text → IsReadable command bytes
      → ¬ IsTraced command trace → IsOfUntraced status
  pub input_refused : (command : Command) (bytes trace text : List ℕ)
      → IsInOrder call command bytes trace text → IsReadable command bytes
      → IsTraced command trace → ¬ IsAccepted command bytes text → IsOfUnaccepted status
  -- Only a command that puts a file changes the store.
  pub files : ¬ IsPut call.request.words → IsSame call.store.files
  pub put_faults : ¬ IsPut call.request.words → IsSame call.store.faults
