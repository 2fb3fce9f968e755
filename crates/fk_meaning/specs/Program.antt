-- Runs of a program.
use Rattle.std.specs.Prelude.{ℕ, List, [], slice_index, Option}
use Rattle.fk_syntax.specs.Program.{ProgramTree}
use Rattle.fk_meaning.specs.Round.{Step, State}
use Rattle.fk_meaning.specs.Schedule as run
use Rattle.fk_meaning_forms.specs.Tables.{Tables}
use Rattle.fk_meaning_forms.specs.Program.{bodies_of, main_of}
use Rattle.fk_meaning.specs.Next.{Work, going, next}

-- the next operation in a program
abbrev pub next_in : Tables → ProgramTree → Work → Option (Step Work)
next_in tables program = next (bodies_of tables program)

-- the work of a processor at the beginning of `main`
abbrev pub main_work : Tables → ProgramTree → Work
main_work tables program = going (bodies_of tables program (main_of tables program)) []

-- p processors at the beginning of `main`, with the initial values of shared data and of the
-- private variables of file scope
abbrev pub program_opening : Tables → ProgramTree → (words firsts input : List ℕ)
    → (p : ℕ) → State Work
program_opening tables program words firsts input p =
    run.opening p words input (slice_index firsts) (main_work tables program)
