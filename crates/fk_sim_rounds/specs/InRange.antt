-- In every run values and variables are words, and few calls wait.
use Rattle.std.specs.Prelude.{◌≡◌, ℕ, ◌+◌, ◌^◌, ◌<◌, ◌≤◌, List, All, length, Some, slice_get}
use Rattle.fk_meaning.specs.Processor.{setting_of}
use Rattle.fk_meaning.specs.Round.{Runner}
use Rattle.fk_meaning.specs.Schedule.{Schedule, run}
use Rattle.fk_core.specs.declared.op.CoreOp.{CoreOp}
use Rattle.fk_core.specs.Next.{Position, next, list_opening}
use Rattle.fk_sim_block.specs.Ready.{IsInRange}

-- What a machine is given: at most 1,024 processors, and words. Globals and input have room in one
-- half of shared data.
pub record AreGiven (words firsts input : List ℕ) (p : ℕ) : Type 0 where
  pub few : p ≤ 1024
  pub room : length words + length input ≤ 2 ^ 19
  pub globals_are_words : All (λ w. w < 2 ^ 32) words
  pub firsts_are_words : All (λ w. w < 2 ^ 32) firsts
  pub input_are_words : All (λ w. w < 2 ^ 32) input

-- All processors are in range after each schedule, whatever operations the list has.
abbrev pub ListsStayInRange : Type 0
ListsStayInRange =
    (core : List CoreOp) (main : ℕ) (words firsts input : List ℕ) (p : ℕ) (schedule : Schedule)
    → AreGiven words firsts input p
    → (h : ℕ) (r : Runner Position) → slice_get (run (next core)
    (setting_of p words input) schedule (list_opening main words firsts input p)).runners h ≡ Some r
    → IsInRange r.has
