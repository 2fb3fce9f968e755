-- What is known, in a reached state, of processors that are about to begin the group of a `start`,
-- and of those that wait for it.
use Rattle.std.specs.Prelude.{◌≡◌, ℕ, List, Some, slice_get}
use Rattle.fk_space.specs.Space.{Space}
use Rattle.fk_meaning_operation.specs.Kinds.{joint_of}
use Rattle.fk_meaning_operation.specs.declared.kinds.Joint.TheVariants.{Resuming}
use Rattle.fk_meaning_operation.specs.declared.operation.Operation.TheVariants.{Begin}
use Rattle.fk_tree.specs.declared.node.Kind.TheVariants.{Waiting}
use Rattle.fk_tree.specs.Tree as trees
use Rattle.fk_tree.specs.Tree.{Tree}
use Rattle.fk_meaning.specs.Processor.{Setting}
use Rattle.fk_meaning.specs.Round.{Step, Runner, State}
use Rattle.fk_core.specs.declared.op.CoreOp.{CoreOp}
use Rattle.fk_core.specs.Next.{Position, next}
use Rattle.fk_sim_nodes.specs.Phase.{Phase}
use Rattle.fk_sim_match.specs.Stage.{Unites, Meets}
use Rattle.fk_sim_block.specs.Owner.{Owner}
use Rattle.fk_sim_block.specs.Node.{Nestings}
use Rattle.fk_sim_block.specs.Start.{IsInRoot}
use Rattle.fk_sim_match.specs.Rounds.{IsDueAt}
use Rattle.fk_sim_rounds.specs.Next.{landed}
use Rattle.fk_sim_rounds.specs.Union.{AllLandAt}
use Rattle.fk_sim_runs.specs.Lists.{IsOfTree}
use Rattle.fk_sim_runs.specs.Reached.{IsReached}

-- A processor is about to begin the group of a `start`. The law says this of each processor at a
-- stage in which it is to unite with others.
abbrev pub Begins : List CoreOp → Runner Position → Type 0
Begins core r = (step : Step Position) × (next core r.left ≡ Some step) × (step.operation ≡ Begin)

abbrev pub UnitersBegin : Type 0
UnitersBegin =
    (core : List CoreOp) (tree : Tree) (spaces : ℕ → Space) (g w : ℕ) (f : Phase)
    (r : Runner Position) → IsDueAt core tree spaces g (Meets Unites w f) r → Begins core r

-- A processor that is about to begin that group is in the root.
abbrev pub ReachedBeginnersAreInRoot : Type 0
ReachedBeginnersAreInRoot =
    (core : List CoreOp) (nestings : Nestings) (main : ℕ) (setting : Setting) (s : State Position)
    (h : ℕ) (p : Owner)
    → IsOfTree core nestings main → IsReached core nestings setting s → slice_get s.runners h
    ≡ Some p.runner → Begins core p.runner → IsInRoot nestings setting (landed core p)

-- Where all processors are about to begin that group, jumps lead all to one index.
abbrev pub ReachedBeginnersLandAtOneIndex : Type 0
ReachedBeginnersLandAtOneIndex =
    (core : List CoreOp) (nestings : Nestings) (setting : Setting) (s : State Position)
    → IsReached core nestings setting s
    → ((h : ℕ) (r : Runner Position) → slice_get s.runners h ≡ Some r → Begins core r)
    → (i : ℕ) × AllLandAt core i s.runners

-- A processor that waits for parts is about to go on after them.
abbrev pub ReachedWaitersResume : Type 0
ReachedWaitersResume =
    (core : List CoreOp) (nestings : Nestings) (setting : Setting) (s : State Position)
    (h first parts : ℕ) (r : Runner Position) (step : Step Position)
    → IsReached core nestings setting s
    → trees.kind s.tree (s.tree.places h) ≡ Some (Waiting first parts)
    → slice_get s.runners h ≡ Some r → next core r.left ≡ Some step
    → joint_of step.operation ≡ Resuming
