-- What a round makes of each node of the tree, where the members of several nodes do steps.
use Rattle.std.specs.Prelude.{◌≡◌, ◌≢◌, ℕ, suc, ◌<◌, ◌≤◌, false, List, [], ◌∷◌, length, Option}
use Rattle.std.specs.Prelude.{Some, None, ◌==◌, if◌then◌else◌, ◌⊎◌}
use Rattle.fk_tree.specs.Tree as t
use Rattle.fk_tree.specs.Tree.{Tree}
use Rattle.fk_tree.specs.Sound.{Has, IsSound}
use Rattle.fk_meaning_operation.specs.declared.operation.Operation.{Operation}
use Rattle.fk_meaning_operation.specs.declared.operation.Operation.TheVariants as o
use Rattle.fk_meaning.specs.Processor.{Processor, Setting, values, last}
use Rattle.fk_meaning.specs.Group.{changes}
use Rattle.fk_meaning.specs.Round.{Step, State, Round, Acting, lowest, highest, who, all_requests}
use Rattle.fk_meaning.specs.Round.{asking, result}
use Rattle.fk_lockstep.specs.Untouched.{changes_tree}

module _ {W : Type 0} where
  -- what is due doesn't change the tree
  abbrev pub Keeps : Option (Step W) → Type 0
  Keeps None = Unit {0}
  Keeps (Some step) = changes_tree step.operation ≡ false

  -- it is one operation
  abbrev pub Does : Operation → Option (Step W) → Type 0
  Does operation None = ⊥
  Does operation (Some step) = step.operation ≡ operation

  abbrev pub KeepsOrDoes : Option Operation → Option (Step W) → Type 0
  KeepsOrDoes None due = Keeps due
  KeepsOrDoes (Some operation) due = Does operation due

  -- at each node nobody changes the tree, or all who stand there do one step. Their
  -- numbers begin with one
  abbrev pub StepsBy : Tree → (does : ℕ → Option Operation) → (number : ℕ) → List (Acting W)
      → Type 0
  StepsBy old does number [] = Unit {0}
  StepsBy old does number (a ∷ actings) =
      (a.runner.has.number ≡ number) × KeepsOrDoes (does (old.places number)) a.due
      × StepsBy old does (suc number) actings

-- the members of one node step
abbrev pub only : (g : ℕ) → Operation → ℕ → Option Operation
only g operation k = if k == g then Some operation else None

-- all members of a node that steps stand there; and a group of `start` begins in the root
pub record MayStep (old : Tree) (g : ℕ) (operation : Operation) : Type 0 where
  pub there : old.nodes g ≢ None
  pub stand : (h : ℕ) → Has old g h → old.places h ≡ g
  pub root : operation ≡ o.Begin → g ≡ 0

-- the tree, if the members of one node alone step, and its parts get the numbers from one on
abbrev pub tree_by : Tree → (ℕ → Processor) → (first g : ℕ) → Option Operation → Tree
tree_by old who first g None = record old { given = first }
tree_by old who first g (Some operation) =
    changes operation g who (last (values (who (highest (t.members old g)))))
    (lowest (t.members old g)) (record old { given = first })

module _ (old new : Tree) (who : ℕ → Processor) (does : ℕ → Option Operation) where
  -- Each node is what its own step makes of it, with numbers of its own for its parts, and each
  -- processor is where the step of its node leads it
  pub record NodesStep : Type 0 where
    pub first : ℕ → ℕ
    pub given : old.given ≤ new.given
    pub within : (g : ℕ) → (old.given ≤ first g)
        × ((tree_by old who (first g) g (does g)).given ≤ new.given)
    pub apart : (g k : ℕ) → g ≢ k
        → ((tree_by old who (first g) g (does g)).given ≤ first k)
        ⊎ ((tree_by old who (first k) k (does k)).given ≤ first g)
    pub nodes : (g : ℕ) → g < old.given
        → new.nodes g ≡ (tree_by old who (first g) g (does g)).nodes g
    pub parts : (g m : ℕ) → first g ≤ m → m < (tree_by old who (first g) g (does g)).given
        → new.nodes m ≡ (tree_by old who (first g) g (does g)).nodes m
    -- no other nodes are new
    pub others : (m : ℕ) → old.given ≤ m
        → ((g : ℕ) → first g ≤ m → m < (tree_by old who (first g) g (does g)).given → ⊥)
        → new.nodes m ≡ None
    pub places : (h : ℕ) → let g = old.places h in
        new.places h ≡ (tree_by old who (first g) g (does g)).places h

module _ {W : Type 0} (next : W → Option (Step W)) (set : Setting) (round : Round)
    (s : State W) where
  -- those who stand before the steps of the tree
  abbrev pub stepping : List (Acting W)
  stepping = (all_requests 0 (asking next set round s.runners) s.store).acting

-- this holds for every round of a sound tree, if it has no fault
abbrev pub RoundsStepNodes : (W : Type 0) → Type 0
RoundsStepNodes W =
    (next : W → Option (Step W)) (set : Setting) (round : Round) (s : State W)
    (does : ℕ → Option Operation)
    → IsSound set.processors s.tree → (result next set round s).fault ≡ None
    → length (stepping next set round s) ≡ set.processors
    → StepsBy s.tree does 0 (stepping next set round s)
    → ((g : ℕ) (operation : Operation) → does g ≡ Some operation → MayStep s.tree g operation)
    → NodesStep s.tree (result next set round s).tree (who (stepping next set round s)) does
