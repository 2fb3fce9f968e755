-- States that are reached in runs of lists whose processors are in trees.
use Rattle.std.specs.Prelude.{◌≡◌, ℕ, ◌≤◌, List, [], length, Some, None, slice_get, All, ◌⊎◌}
use Rattle.fk_meaning_operation.specs.declared.operation.Operation.{Operation}
use Rattle.fk_space.specs.Space.{IsSpace}
use Rattle.fk_meaning.specs.Processor.{Processor, Setting, setting_of, values}
use Rattle.fk_meaning.specs.Round.{Runner, State}
use Rattle.fk_meaning.specs.Schedule.{Schedule, run, ArePossible}
use Rattle.fk_core.specs.declared.op.CoreOp.{CoreOp}
use Rattle.fk_core.specs.Numbers.{operation_of}
use Rattle.fk_core.specs.Next.{Position, position, landing, next, list_opening}
use Rattle.fk_lockstep_frames.specs.Taken.{spaces_of}
use Rattle.fk_lockstep_tree.specs.Runs.{AreSingle, StandsInTree}
use Rattle.fk_sim_block.specs.Ready.{MayDo, IsInRange}
use Rattle.fk_sim_block.specs.Lists.{StaysInList}
use Rattle.fk_sim_rounds.specs.InRange.{AreGiven}
use Rattle.fk_sim_block.specs.Node.{Nestings}
use Rattle.fk_sim_block.specs.Found.{FindsFrame}
use Rattle.fk_sim_runs.specs.Lists.{IsOfTree}
use Rattle.fk_sim_runs.specs.Levels.{SavesLevels, SavesNumbers}

-- The position of a processor with nothing left to do.
abbrev pub the_end : List CoreOp → Position
the_end core = position (length core) []

-- The words of a processor's group, and those of each group around it, are a space.
abbrev pub HasSpaces : Processor → Type 0
HasSpaces p = All IsSpace (spaces_of p)

-- What is known of a reached state: processors are where their operations, the tree and their
-- levels tell, their levels have spaces, and their frames save these levels and their numbers. Each
-- processor is in the list or at its end, has as many values as its operation expects, may do it,
-- finds the frame that it asks for, and has words alone.
pub record IsReached (core : List CoreOp) (nestings : Nestings) (setting : Setting)
    (s : State Position) : Type 0 where
  pub stands : StandsInTree (next core) (λ w. landing core w.at) setting s
  pub spaces : (h : ℕ) (r : Runner Position) → slice_get s.runners h ≡ Some r → HasSpaces r.has
  pub saves : (h : ℕ) (r : Runner Position) → slice_get s.runners h ≡ Some r
      → SavesLevels core nestings r
  pub numbers : (h : ℕ) (r : Runner Position) → slice_get s.runners h ≡ Some r
      → SavesNumbers core nestings r
  pub within : (h : ℕ) (r : Runner Position) → slice_get s.runners h ≡ Some r
      → StaysInList core r.left ⊎ (r.left ≡ the_end core)
  pub depth : (h : ℕ) (r : Runner Position) (op : CoreOp) → slice_get s.runners h ≡ Some r
      → slice_get core (landing core r.left.at) ≡ Some op
      → length (values r.has) ≡ op.depth
  pub may : (h : ℕ) (r : Runner Position) (op : CoreOp) (operation : Operation)
      → slice_get s.runners h ≡ Some r
      → slice_get core (landing core r.left.at) ≡ Some op
      → operation_of op.kind op.number ≡ Some operation → MayDo operation r
  pub finds : (h : ℕ) (r : Runner Position) (op : CoreOp) (operation : Operation)
      → slice_get s.runners h ≡ Some r
      → slice_get core (landing core r.left.at) ≡ Some op
      → operation_of op.kind op.number ≡ Some operation
      → FindsFrame nestings operation
      (record r { left = position (landing core r.left.at) r.left.callers })
  pub in_range : (h : ℕ) (r : Runner Position) → slice_get s.runners h ≡ Some r → IsInRange r.has

-- A state is reached after each schedule of possible rounds, in which each processor does one
-- operation at most, from what a machine may be given.
abbrev pub RunsReach : Type 0
RunsReach =
    (core : List CoreOp) (nestings : Nestings) (main : ℕ) → IsOfTree core nestings main
    → (words firsts input : List ℕ) (p : ℕ) (schedule : Schedule)
    → let setting = setting_of p words input in
    let first = list_opening main words firsts input p in
    1 ≤ p → AreGiven words firsts input p → ArePossible (next core) setting schedule first
    → AreSingle schedule → (run (next core) setting schedule first).fault ≡ None
    → IsReached core nestings setting (run (next core) setting schedule first)
