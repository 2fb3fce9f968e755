-- What a round leaves of processors and of the tree, and what is known of both.
use Rattle.std.specs.Prelude.{◌≡◌, ℕ, suc, List, [], ◌∷◌, map, Bool, true, false, Option, Some}
use Rattle.std.specs.Prelude.{None}
use Rattle.fk_num.specs.Word.{Memory}
use Rattle.fk_space.specs.Space.{Space}
use Rattle.fk_tree.specs.Tree as trees
use Rattle.fk_tree.specs.Tree.{Tree}
use Rattle.fk_meaning_operation.specs.declared.operation.Operation.{Operation}
use Rattle.fk_meaning_operation.specs.declared.operation.Operation.TheVariants.{Halt}
use Rattle.fk_meaning.specs.Processor.{Setting}
use Rattle.fk_meaning.specs.Round.{Step, Runner, Acting, all_changes, settled_by}
use Rattle.fk_core.specs.declared.op.CoreOp.{CoreOp}
use Rattle.fk_core.specs.Next.{Position, landing}
use Rattle.fk_image.specs.declared.Image.{Image}
use Rattle.fk_machine.specs.Hart.{Hart, Setting as MachineSetting}
use Rattle.fk_sim_nodes.specs.Node.{of_node}
use Rattle.fk_sim_match.specs.Stage.{Stage}
use Rattle.fk_sim_match.specs.Cycle.{AllHaveCommitted}
use Rattle.fk_sim_match.specs.Change.{TreeChanges}
use Rattle.fk_lockstep_nodes.specs.Steps as steps
use Rattle.fk_sim_block.specs.Owner.{Owner, Doing, core_source}
use Rattle.fk_sim_block.specs.Stands.{Places}
use Rattle.fk_sim_block.specs.Node.{Nestings}
use Rattle.fk_sim_match.specs.Nodes.{first_of, is_lockstep, plan_of}
use Rattle.fk_sim_match.specs.Behind.{blocks_of}
use Rattle.fk_sim_match.specs.Rounds.{AllDue}
use Rattle.fk_sim_rounds.specs.Next.{landed, IsHome, HasNext, HaveNext}
use Rattle.fk_sim_rounds.specs.Comes.{IsSoon}

-- ---- after the steps of the tree

abbrev pub actings : List Doing → List (Acting Position)
actings ds = map (λ d. d.acting) ds

abbrev pub runners_of : List Owner → List (Runner Position)
runners_of ps = map (λ p. p.runner) ps

abbrev pub tree_after : Tree → List Doing → Tree
tree_after tree ds = all_changes (actings ds) tree (actings ds) tree

abbrev pub owner_after : List (Acting Position) → (old new : Tree) → Doing → Owner
owner_after acting old new d =
    record { runner = settled_by acting old new d.acting.runner d.acting.due; heap = d.heap }

abbrev pub owners_after : (old new : Tree) → List Doing → List Owner
owners_after old new ds = map (owner_after (actings ds) old new) ds

-- No step changes the tree.
abbrev pub Keeps : Option (Step Position) → Type 0
Keeps due = steps.Keeps due

abbrev pub AllKeep : List Doing → Type 0
AllKeep [] = Unit {0}
AllKeep (d ∷ ds) = Keeps d.acting.due × AllKeep ds

abbrev pub DoesStep : Operation → Option (Step Position) → Type 0
DoesStep operation due = steps.Does operation due

-- All processors at a node do one step, and no other step changes the tree.
abbrev pub StepsAt : (old : Tree) → (g number : ℕ) → Operation → List Doing → Type 0
StepsAt old g number operation ds = steps.StepsBy old (steps.only g operation) number (actings ds)

-- ---- what is known

-- The nodes of processors, from a number on.
abbrev pub ArePlaces : Tree → (number : ℕ) → List ℕ → Type 0
ArePlaces tree number [] = Unit {0}
ArePlaces tree number (n ∷ nodes) = (n ≡ tree.places number) × ArePlaces tree (suc number) nodes

-- Each processor is at an operation, or at its end.
abbrev pub AllLanded : List CoreOp → List Owner → Type 0
AllLanded core [] = Unit {0}
AllLanded core (p ∷ ps) = (landing core p.runner.left.at ≡ p.runner.left.at) × AllLanded core ps

abbrev pub is_halt : Operation → Bool
is_halt Halt = true
is_halt operation = false

abbrev pub halts : Option (Step Position) → Bool
halts None = false
halts (Some step) = is_halt step.operation

-- Each processor has of its group what its node has, and one that has committed anything but a halt
-- is about to do another operation.
abbrev pub AllGoOn : List CoreOp → Nestings → Setting → Tree → (spaces : ℕ → Space) → (number : ℕ)
    → (afters : List (Option Stage)) → List Doing → List Owner → Type 0
AllGoOn core nestings setting tree spaces number [] [] [] = Unit {0}
AllGoOn core nestings setting tree spaces number (a ∷ afters) (d ∷ ds) (p ∷ ps) =
    IsHome tree spaces number p × (a ≡ None
    → halts d.acting.due ≡ false → HasNext core nestings setting tree number (landed core p))
    × AllGoOn core nestings setting tree spaces (suc number) afters ds ps
AllGoOn core nestings setting tree spaces number afters ds ps = ⊥

-- Each group in lockstep, all of whose members have committed, is about to do an operation.
abbrev pub GroupsGoOn : List CoreOp → Nestings → Tree → (nodes : List ℕ)
    → (afters : List (Option Stage)) → List Owner → Type 0
GroupsGoOn core nestings tree nodes afters ps =
    (g : ℕ) → is_lockstep (trees.kind tree g) ≡ true → AllHaveCommitted (of_node g nodes afters)
    → HaveNext core nestings (of_node g nodes ps)

-- ---- what follows

-- A hart that has committed is near its next commit, or near the word where it meets others.
abbrev pub AllSoon : List (Option Stage) → List Stage → Type 0
AllSoon [] [] = Unit {0}
AllSoon (a ∷ afters) (s ∷ stages) = (a ≡ None → IsSoon s) × AllSoon afters stages
AllSoon afters stages = ⊥

module _ (core : List CoreOp) (image : Image) (places : Places) (nestings : Nestings)
    (setting : Setting) (tree : Tree) (spaces : ℕ → Space) (nodes : List ℕ)
    (tree' : Tree) (spaces' : ℕ → Space) (nodes' : List ℕ) where
  -- All harts have stages by which the next tree's plan may bind them, and each processor is about
  -- to do what its stage tells.
  pub record BindsAgain (t : MachineSetting) (hs : List Hart) (afters : List (Option Stage))
      (ps ps' : List Owner) (control : Memory) : Type 0 where
    pub stages : List Stage
    pub changes : TreeChanges (core_source core setting) image (plan_of tree spaces nodes)
        (blocks_of core image places nestings setting (plan_of tree spaces nodes) (first_of spaces))
        (plan_of tree' spaces' nodes')
        (blocks_of core image places nestings setting (plan_of tree' spaces' nodes')
        (first_of spaces')) t hs afters stages ps ps' control
    pub due : AllDue core tree' spaces' 0 stages (runners_of ps')
    pub soon : AllSoon afters stages
