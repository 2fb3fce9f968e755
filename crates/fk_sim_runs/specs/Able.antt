-- A processor that could act in a state is to commit in time, where the plan of the state's tree
-- binds all harts.
use Rattle.std.specs.Prelude.{◌≡◌, ℕ, List, Some, slice_get}
use Rattle.fk_num.specs.Word.{Memory}
use Rattle.fk_space.specs.Space.{Space}
use Rattle.fk_tree.specs.declared.node.Kind.TheVariants.{Waiting}
use Rattle.fk_tree.specs.Tree as trees
use Rattle.fk_tree.specs.Tree.{Tree}
use Rattle.fk_meaning_operation.specs.Kinds.{joint_of}
use Rattle.fk_meaning_operation.specs.declared.kinds.Joint.TheVariants.{Resuming}
use Rattle.fk_meaning.specs.Processor.{Setting}
use Rattle.fk_meaning.specs.Round.{Step, Runner, State}
use Rattle.fk_meaning.specs.Schedule.{CouldAct}
use Rattle.fk_core.specs.declared.op.CoreOp.{CoreOp}
use Rattle.fk_core.specs.Next.{Position, next}
use Rattle.fk_image.specs.declared.Image.{Image}
use Rattle.fk_machine.specs.Hart.{Hart, Shared, Setting as MachineSetting}
use Rattle.fk_sim_match.specs.Stage.{Stage}
use Rattle.fk_sim_block.specs.Stands.{Places}
use Rattle.fk_sim_block.specs.Node.{Nestings}
use Rattle.fk_sim_match.specs.Nodes.{plan_of, united}
use Rattle.fk_sim_rounds.specs.Next.{JumpsLead}
use Rattle.fk_sim_rounds.specs.Comes.{most_between}
use Rattle.fk_sim_rounds.specs.Union.{IsUnited}
use Rattle.fk_sim_rounds.specs.Follow.{IsFollowed}
use Rattle.fk_sim_runs.specs.Pace.{AreInTime, Sight, ActsWithin}

-- A processor that waits for parts is about to go on after them.
abbrev pub WhoWaitsResumes : List CoreOp → State Position → Type 0
WhoWaitsResumes core s =
    (h first parts : ℕ) (r : Runner Position) (step : Step Position)
    → trees.kind s.tree (s.tree.places h) ≡ Some (Waiting first parts)
    → slice_get s.runners h ≡ Some r → next core r.left ≡ Some step
    → joint_of step.operation ≡ Resuming

-- The view of a state's harts before a cycle.
abbrev pub sight_of : Tree → (spaces : ℕ → Space) → (nodes : List ℕ) → List Stage
    → (control : Memory) → (finished : ℕ) → Sight
sight_of tree spaces nodes stages control finished = record {
  plan = plan_of tree spaces nodes;
  stages = stages;
  control = control;
  finished = finished;
}

-- The same view where all have met at the beginning of `start`, and are in lockstep in the root.
abbrev pub united_sight_of : Tree → (spaces : ℕ → Space) → (nodes : List ℕ) → List Stage
    → (control : Memory) → (finished : ℕ) → Sight
united_sight_of tree spaces nodes stages control finished = record {
  plan = united (plan_of tree spaces nodes);
  stages = stages;
  control = control;
  finished = finished;
}

abbrev pub WhoCouldActWill : Type 0
WhoCouldActWill =
    (core : List CoreOp) (image : Image) (places : Places) (nestings : Nestings) (setting : Setting)
    (spaces : ℕ → Space) (s : State Position) (nodes : List ℕ) (t : MachineSetting)
    (printed : List ℕ)
    (stages : List Stage) (hs : List Hart) (sh : Shared) (h : ℕ)
    → JumpsLead core
    → IsFollowed core image places nestings setting spaces s nodes t printed stages hs sh
    → AreInTime stages → WhoWaitsResumes core s
    → CouldAct (next core) setting h s
    → ActsWithin (sight_of s.tree spaces nodes stages sh.control t.finished) h most_between

abbrev pub WhoHasUnitedWill : Type 0
WhoHasUnitedWill =
    (core : List CoreOp) (image : Image) (places : Places) (nestings : Nestings) (setting : Setting)
    (spaces : ℕ → Space) (s : State Position) (nodes : List ℕ) (t : MachineSetting)
    (printed : List ℕ)
    (stages : List Stage) (hs : List Hart) (sh : Shared) (h : ℕ)
    → IsUnited core image places nestings setting spaces s nodes t printed stages hs sh
    → CouldAct (next core) setting h s
    → ActsWithin (united_sight_of s.tree spaces nodes stages sh.control t.finished) h most_between
