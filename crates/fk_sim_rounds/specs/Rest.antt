-- Groups that end, and their control words.
use Rattle.std.specs.Prelude.{◌≡◌, ◌≢◌, ℕ, List, length, Option, None, Some, ◌⊎◌}
use Rattle.fk_num.specs.Word.{Memory}
use Rattle.fk_space.specs.Space.{Space}
use Rattle.fk_tree.specs.declared.node.Kind.TheVariants.{Lockstep}
use Rattle.fk_tree.specs.Tree as trees
use Rattle.fk_tree.specs.Tree.{Tree}
use Rattle.fk_tree.specs.Sound.{IsSound}
use Rattle.fk_meaning_operation.specs.declared.operation.Operation.{Operation}
use Rattle.fk_meaning_operation.specs.declared.operation.Operation.TheVariants.{End}
use Rattle.fk_meaning.specs.Processor.{Setting}
use Rattle.fk_core.specs.declared.op.CoreOp.{CoreOp}
use Rattle.fk_image.specs.declared.Image.{Image}
use Rattle.fk_machine.specs.Hart.{Hart, Setting as MachineSetting}
use Rattle.fk_sim_nodes.specs.Node.{Has}
use Rattle.fk_sim_match.specs.Stage.{Stage}
use Rattle.fk_sim_match.specs.Cycle.{IsLeft}
use Rattle.fk_sim_block.specs.Owner.{Owner, Doing, core_source}
use Rattle.fk_sim_block.specs.Stands.{Places}
use Rattle.fk_sim_block.specs.Node.{Nestings, IsAtRest}
use Rattle.fk_sim_match.specs.Nodes.{first_of, HaveSpaces, plan_of}
use Rattle.fk_sim_match.specs.Behind.{blocks_of}
use Rattle.fk_lockstep_nodes.specs.Steps.{StepsBy}
use Rattle.fk_sim_rounds.specs.After.{actings, tree_after, ArePlaces}
use Rattle.fk_sim_rounds.specs.Rounds.{EndsGroup, IsKnownRound}

-- The tree has no node but the root.
abbrev pub HasNoGroup : Tree → Type 0
HasNoGroup tree = (g : ℕ) → g ≢ 0 → tree.nodes g ≡ None

-- After a known round there are groups still, unless the round ends one.
abbrev pub KnownRoundsKeepGroups : Type 0
KnownRoundsKeepGroups =
    (p : ℕ) (tree : Tree) (ds : List Doing) → IsSound p tree → length ds ≡ p → IsKnownRound tree ds
    → EndsGroup tree ds ⊎ (HasNoGroup (tree_after tree ds) → HasNoGroup tree)

-- Nobody is left at the arrival words of a group that ends.
abbrev pub EndedGroupsRest : Type 0
EndedGroupsRest =
    (core : List CoreOp) (image : Image) (places : Places) (nestings : Nestings) (setting : Setting)
    (tree : Tree) (spaces : ℕ → Space) (nodes : List ℕ) (t : MachineSetting) (stages : List Stage)
    (hs : List Hart) (ps : List Owner) (ds : List Doing) (own own' : ℕ → Memory)
    (control : Memory) (does : ℕ → Option Operation) (g : ℕ)
    → let plan = plan_of tree spaces nodes in
    let blocks = blocks_of core image places nestings setting plan (first_of spaces) in
    HaveSpaces tree spaces → IsSound setting.processors tree → ArePlaces tree 0 nodes
    → length nodes ≡ setting.processors
    → IsLeft (core_source core setting) image plan blocks t stages hs ps ds own own'
    → ((k : ℕ) → Has (plan.words k) control (own' k))
    → trees.kind tree g ≡ Some Lockstep → StepsBy tree does 0 (actings ds) → does g ≡ Some End
    → IsAtRest (first_of spaces g) control
