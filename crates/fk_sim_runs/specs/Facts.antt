-- What is known of a reached state, in the form that the laws of machines need.
use Rattle.std.specs.Prelude.{◌≡◌, ◌≢◌, ℕ, ◌+◌, ◌^◌, ◌<◌, ◌≤◌, nat_lt, List, length, Some, None}
use Rattle.std.specs.Prelude.{true, false, slice_get, is_some, if◌then◌else◌, ◌⊎◌}
use Rattle.fk_space.specs.Space.{Space}
use Rattle.fk_meaning_operation.specs.declared.operation.Operation.TheVariants.{Begin}
use Rattle.fk_tree.specs.declared.node.Kind.TheVariants.{Lockstep, Asynchronous}
use Rattle.fk_tree.specs.Tree as trees
use Rattle.fk_tree.specs.Tree.{Tree}
use Rattle.fk_meaning.specs.Processor.{Setting, setting_of, group_space}
use Rattle.fk_meaning.specs.Round.{Runner, State, result, is_possible}
use Rattle.fk_meaning.specs.Schedule.{Schedule, run}
use Rattle.fk_core.specs.declared.op.CoreOp.{CoreOp}
use Rattle.fk_core.specs.Next.{Position, next, list_opening}
use Rattle.fk_lockstep_frames.specs.Lists.{HasLocalFrames, HasToldFrames}
use Rattle.fk_lockstep_tree.specs.Ranges.{range_of, ranges_of}
use Rattle.fk_sim_nodes.specs.Node.{of_node}
use Rattle.fk_sim_nodes.specs.Source.{AllPass}
use Rattle.fk_sim_match.specs.Stage.{Stage, counts_for, AllDoOne}
use Rattle.fk_sim_block.specs.Owner.{Commons, Heaps, Owner, Doing, core_source}
use Rattle.fk_sim_block.specs.Node.{Nestings}
use Rattle.fk_sim_rounds.specs.Next.{landed, HasNext, HaveNext}
use Rattle.fk_sim_rounds.specs.After.{runners_of, StepsAt, ArePlaces}
use Rattle.fk_sim_rounds.specs.Rounds.{IsTree, IsKnownRound}
use Rattle.fk_sim_rounds.specs.Beside.{AreInOrder, IsBeside}
use Rattle.fk_sim_runs.specs.Lists.{IsOfTree}
use Rattle.fk_sim_runs.specs.Reached.{the_end, IsReached}

-- The globals and the input have room in one half of the words of shared data.
abbrev pub HasSpace : Setting → Type 0
HasSpace setting = setting.globals + setting.inputs ≤ 2 ^ 19

-- The tree is sound, and its nodes own words apart: those that their lowest members tell.
abbrev pub ReachedTreesHaveSpaces : Type 0
ReachedTreesHaveSpaces =
    (core : List CoreOp) (nestings : Nestings) (setting : Setting) (s : State Position)
    → IsReached core nestings setting s → IsTree setting s.tree (ranges_of s)

-- The words of the nodes in one cycle, from a state to the one behind it: those of before, and for
-- a new node those behind. The next group of the root may be one that nobody enters.
abbrev pub ranges_over : Setting → (s behind : State Position) → (g : ℕ) → Space
ranges_over setting s behind g =
    if nat_lt g s.tree.given then ranges_of s g
    else if is_some (behind.tree.nodes g) then ranges_of behind g
    else range_of (group_space setting)

-- The words of a node are the same after a round, if it is still there.
abbrev pub ReachedRangesStay : Type 0
ReachedRangesStay =
    (core : List CoreOp) (nestings : Nestings) (main : ℕ) (setting : Setting) (stages : List Stage)
    (s : State Position) (g : ℕ)
    → let behind = result (next core) setting (counts_for stages) s in
    IsOfTree core nestings main → IsReached core nestings setting s
    → IsReached core nestings setting behind → AllDoOne stages
    → is_possible (next core) setting (counts_for stages) s ≡ true
    → g < s.tree.given → behind.tree.nodes g ≢ None
    → ranges_of behind g ≡ ranges_of s g

-- ---- one processor

-- Each processor has the nests that its position tells, where the list tells them. So the words of
-- its groups are spaces, and the frames of its calls begin where the nests say.
abbrev pub ReachedStatesHaveNests : Type 0
ReachedStatesHaveNests =
    (core : List CoreOp) (main : ℕ) (frames : HasLocalFrames core main)
    (words firsts input : List ℕ) (p : ℕ) (schedule : Schedule)
    → let setting = setting_of p words input in
    HasSpace setting
    → (h : ℕ) (r : Runner Position)
    → slice_get (run (next core) setting schedule (list_opening main words firsts input p)).runners
    h ≡ Some r
    → HasToldFrames core main frames setting r

-- A processor that isn't at its end is about to do something by itself, with those whom it meets,
-- or with its group.
abbrev pub ReachedProcessorsHaveNext : Type 0
ReachedProcessorsHaveNext =
    (core : List CoreOp) (nestings : Nestings) (main : ℕ) (setting : Setting) (s : State Position)
    (h : ℕ) (r : Runner Position) (heap : Heaps)
    → IsOfTree core nestings main → IsReached core nestings setting s
    → slice_get s.runners h ≡ Some r → r.left ≢ the_end core
    → let p : Owner = record { runner = r; heap = heap } in
    HasNext core nestings setting s.tree h (landed core p)

-- ---- a group

-- The members of a group in lockstep are about to do one operation, and take the same branch.
abbrev pub ReachedGroupsHaveNext : Type 0
ReachedGroupsHaveNext =
    (core : List CoreOp) (nestings : Nestings) (main : ℕ) (setting : Setting) (s : State Position)
    (nodes : List ℕ) (ps : List Owner) (g : ℕ)
    → IsOfTree core nestings main → IsReached core nestings setting s → setting.processors ≤ 1024
    → ArePlaces s.tree 0 nodes → length nodes ≡ setting.processors
    → s.runners ≡ runners_of ps → trees.kind s.tree g ≡ Some Lockstep
    → HaveNext core nestings (of_node g nodes ps)

-- ---- a round

-- All processors begin the group of a `start`.
pub record BeginsGroup (tree : Tree) (ds : List Doing) : Type 0 where
  pub kind : trees.kind tree 0 ≡ Some (Asynchronous false)
  pub stand : (h : ℕ) → trees.is_member h (trees.members tree 0) ≡ true → tree.places h ≡ 0
  pub steps : StepsAt tree 0 0 Begin ds

-- A possible round of a machine is a known one, or the one in which the group of a `start` begins.
abbrev pub ReachedRoundsAreKnown : Type 0
ReachedRoundsAreKnown =
    (core : List CoreOp) (nestings : Nestings) (main : ℕ) (setting : Setting) (stages : List Stage)
    (s : State Position) (ps : List Owner) (did : List Doing) (shared shared' : Commons)
    → IsOfTree core nestings main → IsReached core nestings setting s → AreInOrder 0 s.runners
    → IsBeside core setting s ps shared → AllDoOne stages
    → is_possible (next core) setting (counts_for stages) s ≡ true
    → AllPass (core_source core setting) (counts_for stages) ps shared did shared'
    → IsKnownRound s.tree did ⊎ BeginsGroup s.tree did
