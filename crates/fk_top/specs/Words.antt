-- What the commands read, and which of them run something, take an input, put a file or run an
-- image.
use Rattle.std.specs.Prelude.{◌+◌, ◌^◌, ℕ, List}
use Rattle.fk_num.specs.Limits.{most_text_bytes}
use Rattle.fk_top_words.specs.Arguments.{Text}
use Rattle.fk_top_words.specs.Command.{Command, Run, Build, Exec, ListCode, Elf}
use Rattle.fk_top_words.specs.Command.{Unelf, Audit, Trace, Replay, Selftest, Locks, Reads}
use Rattle.fk_top.specs.declared.command.OriginWords.{OriginWords}
use Rattle.fk_top.specs.declared.command.OriginWords.TheVariants as words

-- The command runs an image, that of a source or of a generated text or one given by its bytes, or
-- a source's program under the schedule of a trace.
abbrev pub Runs : Command → Type 0
Runs (Run file harts cycles show) = Unit {0}
Runs (Exec image harts cycles) = Unit {0}
Runs (Audit file harts cycles) = Unit {0}
Runs (Trace file harts cycles) = Unit {0}
Runs (Replay file trace) = Unit {0}
Runs (Selftest statements) = Unit {0}
Runs command = ⊥

-- The words are a command that runs.
abbrev pub IsRun : List Text → Type 0
IsRun words = (command : Command) × Reads words command × Runs command

-- The command takes an input.
abbrev pub TakesInput : Command → Type 0
TakesInput (Run file harts cycles show) = Unit {0}
TakesInput (Exec image harts cycles) = Unit {0}
TakesInput (Audit file harts cycles) = Unit {0}
TakesInput (Trace file harts cycles) = Unit {0}
TakesInput (Replay file trace) = Unit {0}
TakesInput command = ⊥

-- The words are a command that takes an input.
abbrev pub HasInput : List Text → Type 0
HasInput words = (command : Command) × Reads words command × TakesInput command

-- The command puts a file.
abbrev pub Puts : Command → Type 0
Puts (Build file image) = Unit {0}
Puts (Elf image file) = Unit {0}
Puts (Unelf file image) = Unit {0}
Puts command = ⊥

-- The words are a command that puts a file.
abbrev pub IsPut : List Text → Type 0
IsPut words = (command : Command) × Reads words command × Puts command

-- The words are a command that runs an image given by its bytes.
abbrev pub IsExec : List Text → Type 0
IsExec words = (image : Text) × (harts : ℕ) × (cycles : ℕ) × Reads words (Exec image harts cycles)

-- The words are a command that replays a trace.
abbrev pub IsReplay : List Text → Type 0
IsReplay words = (file : Text) × (trace : Text) × Reads words (Replay file trace)

-- Where the bytes that a command reads come from: the first ones of a file, at most so many, or the
-- generated text with so many statements. A command from nowhere reads nothing.
pub data Origin : Type 0 where
  FirstOf : (file : Text) (most : ℕ) → Origin
  Generated : (statements : ℕ) → Origin
  Nowhere : Origin

-- Of a file a command reads at most one byte more than a source may have, or than an image or its
-- ELF file can have.
abbrev pub origin_of : Command → Origin
origin_of (Run file harts cycles show) = FirstOf file (most_text_bytes + 1)
origin_of (Build file image) = FirstOf file (most_text_bytes + 1)
origin_of (Exec image harts cycles) = FirstOf image 5434905
origin_of (ListCode image) = FirstOf image 5434905
origin_of (Elf image file) = FirstOf image 5434905
origin_of (Unelf file image) = FirstOf file 5435037
origin_of (Audit file harts cycles) = FirstOf file (most_text_bytes + 1)
origin_of (Trace file harts cycles) = FirstOf file (most_text_bytes + 1)
origin_of (Replay file trace) = FirstOf file (most_text_bytes + 1)
origin_of (Selftest statements) = Generated statements
origin_of Locks = Nowhere

-- The most bytes that are fetched of a trace. No trace of a run has so many.
abbrev pub most_trace_bytes : ℕ
most_trace_bytes = 2 ^ 47

-- Where the trace comes from that a command reads beside its file.
abbrev pub trace_origin_of : Command → Origin
trace_origin_of (Replay file trace) = FirstOf trace most_trace_bytes
trace_origin_of command = Nowhere

abbrev pub origin_from : OriginWords → Origin
origin_from (words.File file most) = FirstOf file.now most
origin_from (words.Generated statements) = Generated statements
origin_from words.Nowhere = Nowhere

abbrev pub IsFile : Origin → Type 0
IsFile (FirstOf file most) = Unit {0}
IsFile (Generated statements) = ⊥
IsFile Nowhere = ⊥

-- The words are a command that reads a file.
abbrev pub IsFetch : List Text → Type 0
IsFetch words = (command : Command) × Reads words command × IsFile (origin_of command)

-- The most bytes of the input that a command takes: one more than an input text may have, or 0.
abbrev pub most_input : Command → ℕ
most_input (Run file harts cycles show) = most_text_bytes + 1
most_input (Build file image) = 0
most_input (Exec image harts cycles) = most_text_bytes + 1
most_input (ListCode image) = 0
most_input (Elf image file) = 0
most_input (Unelf file image) = 0
most_input (Audit file harts cycles) = most_text_bytes + 1
most_input (Trace file harts cycles) = most_text_bytes + 1
most_input (Replay file trace) = most_text_bytes + 1
most_input (Selftest statements) = 0
most_input Locks = 0
