-- The command that the values which `clap` found stand for.
use Rattle.std.specs.Prelude.{◌≡◌, ℕ, ◌≤◌, List, Option, Some, None, codes, option_and_then}
use Rattle.fk_num.specs.Numeral.{read_word}
use Rattle.clap.specs.Walk.{Row, first_of}
use Rattle.fk_top_words.specs.Arguments.{Text}
use Rattle.fk_top_words.specs.Command.{Command, Run, Build, Exec, ListCode, Elf, Unelf}
use Rattle.fk_top_words.specs.Command.{Audit, Trace, Replay, Selftest, Locks}

-- The number that is found for an argument.
abbrev pub number_of : Text → List Row → Option ℕ
number_of id rows = option_and_then read_word (first_of id rows)

-- The numbers of a run are found, and in range.
pub record RunsBy (rows : List Row) (harts cycles : ℕ) : Type 0 where
  pub harts_are : number_of (codes "harts") rows ≡ Some harts
  pub cycles_are : number_of (codes "cycles") rows ≡ Some cycles
  pub some_harts : 1 ≤ harts
  pub few_harts : harts ≤ 1024

-- The number of statements is found, and in range.
pub record StatementsBy (rows : List Row) (statements : ℕ) : Type 0 where
  pub statements_are : number_of (codes "file") rows ≡ Some statements
  pub some : 1 ≤ statements
  pub few : statements ≤ 500

abbrev pub AsksFor : Text → List Row → Command → Type 0
AsksFor name rows (Run file harts cycles show) =
    (name ≡ codes "run") × (first_of (codes "file") rows ≡ Some file) × RunsBy rows harts cycles
    × (first_of (codes "show") rows ≡ show)
AsksFor name rows (Build file image) =
    (name ≡ codes "build") × (first_of (codes "file") rows ≡ Some file)
    × (first_of (codes "image") rows ≡ Some image)
AsksFor name rows (Exec image harts cycles) = (name ≡ codes "exec")
    × (first_of (codes "file") rows ≡ Some image) × RunsBy rows harts cycles
AsksFor name rows (ListCode image) = (name ≡ codes "list")
    × (first_of (codes "file") rows ≡ Some image)
AsksFor name rows (Elf image file) =
    (name ≡ codes "elf") × (first_of (codes "file") rows ≡ Some image)
    × (first_of (codes "image") rows ≡ Some file)
AsksFor name rows (Unelf file image) =
    (name ≡ codes "unelf") × (first_of (codes "file") rows ≡ Some file)
    × (first_of (codes "image") rows ≡ Some image)
AsksFor name rows (Audit file harts cycles) = (name ≡ codes "audit")
    × (first_of (codes "file") rows ≡ Some file) × RunsBy rows harts cycles
AsksFor name rows (Trace file harts cycles) = (name ≡ codes "trace")
    × (first_of (codes "file") rows ≡ Some file) × RunsBy rows harts cycles
AsksFor name rows (Replay file trace) =
    (name ≡ codes "replay") × (first_of (codes "file") rows ≡ Some file)
    × (first_of (codes "trace") rows ≡ Some trace)
AsksFor name rows (Selftest statements) = (name ≡ codes "selftest") × StatementsBy rows statements
AsksFor name rows Locks = name ≡ codes "locks"

-- The command that the command word and the values which `clap` found stand for.
abbrev pub AsksOf : Option (Text × List Row) → Command → Type 0
AsksOf None command = ⊥
AsksOf (Some (name, rows)) command = AsksFor name rows command
