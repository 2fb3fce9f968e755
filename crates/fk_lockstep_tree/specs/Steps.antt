-- The steps of the tree that processors do together in a round.
use Rattle.std.specs.Prelude.{◌≡◌, ◌≢◌, ℕ, Bool, true, false, List, Option, Some}
use Rattle.fk_tree.specs.declared.node.Kind.TheVariants.{Lockstep, Waiting, Asynchronous}
use Rattle.fk_tree.specs.Tree as t
use Rattle.fk_tree.specs.Tree.{Tree}
use Rattle.fk_meaning_operation.specs.declared.operation.Operation.{Operation}
use Rattle.fk_meaning_operation.specs.declared.operation.Operation.TheVariants as o
use Rattle.fk_tree.specs.Sound.{Has}
use Rattle.fk_meaning_operation.specs.declared.operation.SplitKind.{SplitKind}
use Rattle.fk_meaning.specs.Processor.{values}
use Rattle.fk_meaning.specs.Group.{parts}
use Rattle.fk_meaning.specs.Round.{Acting, lowest, who}
use Rattle.fk_lockstep_nodes.specs.Steps.{StepsBy, MayStep}

-- the nodes at which steps may change the tree: all processors begin in the root; those who wait
-- for parts resume; a group splits, shrinks if it isn't that of a `start`, comes to a body, or
-- ends; and the processors that have a body meet
abbrev pub StepFits : Tree → (g : ℕ) → Operation → Type 0
StepFits tree g o.Begin = (g ≡ 0) × (t.kind tree g ≡ Some (Asynchronous false))
StepFits tree g o.Resume =
    (first : ℕ) × (parts : ℕ) × (t.kind tree g ≡ Some (Waiting first parts))
StepFits tree g (o.Split by) = t.kind tree g ≡ Some Lockstep
StepFits tree g o.Shrink = (t.kind tree g ≡ Some Lockstep) × (t.parent tree g ≢ 0)
StepFits tree g o.Farm = t.kind tree g ≡ Some Lockstep
StepFits tree g o.Seq = t.kind tree g ≡ Some Lockstep
StepFits tree g o.End = t.kind tree g ≡ Some Lockstep
StepFits tree g (o.Meet true) = (g ≢ 0)
    × ((alone : Bool) × (t.kind tree g ≡ Some (Asynchronous alone)))
StepFits tree g operation = ⊥

module _ {W : Type 0} (tree : Tree) (actings : List (Acting W)) where
  -- at each node nobody changes the tree, or all its members stand there and do one step
  pub record AreKnown : Type 0 where
    pub does : ℕ → Option Operation
    pub steps : StepsBy tree does 0 actings
    pub may : (g : ℕ) (operation : Operation) → does g ≡ Some operation → MayStep tree g operation
    pub fits : (g : ℕ) (operation : Operation) → does g ≡ Some operation → StepFits tree g operation
    -- the members of a group that splits make as many parts
    pub divide : (g h : ℕ) (by : SplitKind) → does g ≡ Some (o.Split by) → Has tree g h
        → parts by (values (who actings h))
        ≡ parts by (values (who actings (lowest (t.members tree g))))
