-- The command of a command line.
use Rattle.std.specs.Prelude.{◌≡◌, ℕ, ◌≤◌, List, [], ◌∷◌, Option, Some, None, codes, option_map}
use Rattle.fk_num.specs.Numeral.{read_word}
use Rattle.fk_top_words.specs.Arguments.{Text, Values, Gives}
use Rattle.fk_top_words.specs.declared.command.CommandWords.{CommandWords}
use Rattle.fk_top_words.specs.declared.command.CommandWords.TheVariants as words

-- The commands: compile a file and run it, and then show a variable, if one is named; compile a
-- file into an image; run an image; list an image's code; make the ELF file of an image, and the
-- image of an ELF file; compile a file, run it, and tell which PRAM the run needed; compile a file
-- and trace its run; run the program of a file under the schedule of a trace; compile and run a
-- generated text of this many statements; give the text of the fair lock. A run is by this many
-- harts, for at most this many cycles.
pub data Command : Type 0 where
  Run : (file : Text) (harts cycles : ℕ) (show : Option Text) → Command
  Build : (file image : Text) → Command
  Exec : (image : Text) (harts cycles : ℕ) → Command
  ListCode : (image : Text) → Command
  Elf : (image file : Text) → Command
  Unelf : (file image : Text) → Command
  Audit : (file : Text) (harts cycles : ℕ) → Command
  Trace : (file : Text) (harts cycles : ℕ) → Command
  Replay : (file trace : Text) → Command
  Selftest : (statements : ℕ) → Command
  Locks : Command

abbrev pub once_or_never : Option Text → List Text
once_or_never None = []
once_or_never (Some value) = value ∷ []

-- A file, `--harts P` and `--cycles N`, each once, with P from 1 to 1,024 and N below 2^32, and
-- `--show` once or never.
pub record ReadsRun (words : List Text) (file : Text) (harts cycles : ℕ)
    (show : Option Text) : Type 0 where
  pub harts_text : Text
  pub cycles_text : Text
  pub given : Gives words (record {
    file = file ∷ [];
    harts = harts_text ∷ [];
    cycles = cycles_text ∷ [];
    show = once_or_never show;
    image = [];
  })
  pub harts_are : read_word harts_text ≡ Some harts
  pub cycles_are : read_word cycles_text ≡ Some cycles
  pub some_harts : 1 ≤ harts
  pub few_harts : harts ≤ 1024

abbrev pub no_values : Values
no_values = record { file = []; harts = []; cycles = []; show = []; image = [] }

abbrev pub only_files : List Text → Values
only_files files = record no_values { file = files }

abbrev pub only_file : Text → Values
only_file file = only_files (file ∷ [])

-- A file that is read, and one that is put.
abbrev pub two_files : Text → Text → Values
two_files file image = record (only_file file) { image = image ∷ [] }

-- A number from 1 to 500, where other commands have the name of a file.
pub record ReadsStatements (words : List Text) (statements : ℕ) : Type 0 where
  pub text : Text
  pub given : Gives words (only_file text)
  pub statements_are : read_word text ≡ Some statements
  pub some : 1 ≤ statements
  pub few : statements ≤ 500

-- The command word of each command, and the words after it.
abbrev pub ReadsBehind : Text → List Text → Command → Type 0
ReadsBehind word words (Run file harts cycles show) = (word ≡ codes "run")
    × ReadsRun words file harts cycles show
ReadsBehind word words (Build file image) =
    (word ≡ codes "build") × Gives words (two_files file image)
ReadsBehind word words (Exec image harts cycles) = (word ≡ codes "exec")
    × ReadsRun words image harts cycles None
ReadsBehind word words (ListCode image) = (word ≡ codes "list") × Gives words (only_file image)
ReadsBehind word words (Elf image file) = (word ≡ codes "elf") × Gives words (two_files image file)
ReadsBehind word words (Unelf file image) =
    (word ≡ codes "unelf") × Gives words (two_files file image)
ReadsBehind word words (Audit file harts cycles) = (word ≡ codes "audit")
    × ReadsRun words file harts cycles None
ReadsBehind word words (Trace file harts cycles) = (word ≡ codes "trace")
    × ReadsRun words file harts cycles None
ReadsBehind word words (Replay file trace) =
    (word ≡ codes "replay") × Gives words (only_files (file ∷ trace ∷ []))
ReadsBehind word words (Selftest statements) =
    (word ≡ codes "selftest") × ReadsStatements words statements
ReadsBehind word words Locks = (word ≡ codes "locks") × Gives words no_values

-- The words of each command, those after the program's name.
abbrev pub Reads : List Text → Command → Type 0
Reads [] command = ⊥
Reads (word ∷ words) command = ReadsBehind word words command

-- Words are at most one command.
abbrev pub OneCommand : Type 0
OneCommand = (words : List Text) (c d : Command) → Reads words c → Reads words d → c ≡ d

-- The command of words that were read.
abbrev pub command_of : CommandWords → Command
command_of (words.Run file r show) = Run file.now r.harts r.cycles (option_map (λ s. s.now) show)
command_of (words.Build file image) = Build file.now image.now
command_of (words.Exec file r) = Exec file.now r.harts r.cycles
command_of (words.List image) = ListCode image.now
command_of (words.Elf image file) = Elf image.now file.now
command_of (words.Unelf file image) = Unelf file.now image.now
command_of (words.Audit file r) = Audit file.now r.harts r.cycles
command_of (words.Trace file r) = Trace file.now r.harts r.cycles
command_of (words.Replay file trace) = Replay file.now trace.now
command_of (words.Selftest statements) = Selftest statements
command_of words.Locks = Locks
