-- Lists whose processors go through groups, parts and bodies.
use Rattle.std.specs.Prelude.{◌≡◌, ℕ, ◌<◌, List, [], length, Bool, true, false, Some, slice_get}
use Rattle.fk_meaning_operation.specs.declared.operation.Operation.{Operation}
use Rattle.fk_core.specs.declared.op.CoreOp.{CoreOp}
use Rattle.fk_core.specs.Next.{position, landing, is_jump, follows, next}
use Rattle.fk_core.specs.WellFormed.{IsOperation, IsWellFormed}
use Rattle.fk_lockstep_frames.specs.Nests.{nesting, levels_of, forks_of}
use Rattle.fk_lockstep_frames.specs.Lists.{HasLocalFrames}
use Rattle.fk_lockstep_tree.specs.Runs.{AlwaysInTree}
use Rattle.fk_sim_block.specs.Next.{OpAt}
use Rattle.fk_sim_block.specs.Lists.{StaysInList, is_end, AlwaysMay}
use Rattle.fk_sim_block.specs.Node.{Nestings}

-- What a list needs to be followed by machines: conditions on each index, whatever branches its
-- processors take, and conditions on all its runs of possible rounds.
pub record IsOfTree (core : List CoreOp) (nestings : Nestings) (main : ℕ) : Type 0 where
  pub begins : main < length core
  -- A jump leads to an operation.
  pub jumps : (i : ℕ) (op : CoreOp) → slice_get core i ≡ Some op → is_jump op ≡ true
      → IsOperation core op.target
  -- Every operation that isn't an end goes on inside the list.
  pub within : (i : ℕ) (op : CoreOp) (operation : Operation) → OpAt core i op operation
      → is_end operation ≡ false
      → (onward : Bool) → StaysInList core (follows core operation i op.target [] onward)
  -- At each index the nests of the call are known, and its frame has the levels that they tell.
  pub frames : HasLocalFrames core main
  pub levels : (i : ℕ) → i < length core
      → nestings.levels i ≡ levels_of (frames.in_main i) (frames.nests i)
  pub nest : (i : ℕ) → i < length core → nestings.nest i ≡ nesting (frames.nests i)
  -- Of each level it is told whether a `fork` left it.
  pub forks : (i level : ℕ) → i < length core → level < nestings.levels i
      → nestings.forks i level ≡ forks_of (frames.in_main i) (frames.nests i) level
  -- In every such run processors are where their operations, the tree and their levels tell. The
  -- members of a group in lockstep are at one index and have one space, and those who begin a group
  -- are at one index.
  pub in_tree : AlwaysInTree (next core) (λ w. landing core w.at) (position main [])
  -- In every such run each processor has as many values as its operation expects, and may do it.
  pub well_formed : IsWellFormed core main
  pub may : AlwaysMay core main
