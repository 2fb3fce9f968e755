-- The run of a program under a schedule.
use Rattle.std.specs.Prelude.{ℕ, List, Option}
use Rattle.fk_syntax.specs.Program.{ProgramTree}
use Rattle.fk_meaning_forms.specs.Tables.{Tables}
use Rattle.fk_meaning.specs.Next.{Work}
use Rattle.fk_meaning.specs.Processor.{Setting, setting_of}
use Rattle.fk_meaning.specs.Program.{next_in, program_opening}
use Rattle.fk_meaning.specs.Round.{Step, State}
use Rattle.fk_meaning.specs.Schedule.{Schedule, SourceStand, IsLawful, run, stand_of}

-- The run by p processors, with these initial words of shared variables and of private variables of
-- file scope, and with this input.
module _ (tables : Tables) (program : ProgramTree) (words firsts input : List ℕ) (p : ℕ) where
  abbrev pub next_of : Work → Option (Step Work)
  next_of = next_in tables program

  abbrev pub setting : Setting
  setting = setting_of p words input

  abbrev pub first : State Work
  first = program_opening tables program words firsts input p

  abbrev pub IsLawfulFor : Schedule → Type 0
  IsLawfulFor schedule = IsLawful next_of setting schedule first

  -- the state, what was printed, and the status after a schedule
  abbrev pub end_of : Schedule → State Work
  end_of schedule = run next_of setting schedule first

  abbrev pub printed_by : Schedule → List ℕ
  printed_by schedule = (end_of schedule).store.output

  abbrev pub stand_by : Schedule → SourceStand
  stand_by schedule = stand_of next_of setting (end_of schedule)
