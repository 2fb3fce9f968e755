-- The tree behind a round in which one step changes it.
use Rattle.std.proofs.Common.{◌≡◌, ℕ, List, length, Some, ◌∙◌}
use Rattle.std.proofs.lemmas.List.{length-map}
use Rattle.fk_tree.specs.declared.node.Kind.{Kind}
use Rattle.fk_tree.specs.Tree as trees
use Rattle.fk_tree.specs.Tree.{Tree}
use Rattle.fk_tree.specs.Sound.{IsSound}
use Rattle.fk_meaning_operation.specs.declared.operation.Operation.{Operation}
use Rattle.fk_meaning.specs.Group.{changes}
use Rattle.fk_meaning.specs.Round.{lowest, who, agreed}
use Rattle.fk_lockstep_nodes.proofs.One as one
use Rattle.fk_sim_block.specs.Owner.{Doing}
use Rattle.fk_sim_match.proofs.Rounds.{not_none}
use Rattle.fk_sim_rounds.specs.After.{actings, tree_after, StepsAt}
use Rattle.fk_sim_rounds.specs.Rounds.{AllStandIn}
use Rattle.fk_sim_rounds.proofs.Moved.{kind_there, lowest_there}

-- the lowest of those who stand at a node brings its step to the tree
pub step_is_brought : (p : ℕ) (old : Tree) → IsSound p old → (g : ℕ) (kind : Kind) (operation : Operation) (ds : List Doing) → trees.kind old g ≡ Some kind → AllStandIn old g → length ds ≡ p
    → StepsAt old g 0 operation ds
    → tree_after old ds ≡ changes operation g (who (actings ds)) (agreed (actings ds) (trees.members old g)) (lowest (trees.members old g)) old
step_is_brought p old sound g kind operation ds is stand many steps =
    let there = kind_there (old.nodes g) kind is in
    let member = lowest_there (trees.members old g) (λ empty. not_none (old.nodes g) there (sound.living g empty)) in
    one.step_is_brought p old sound g operation (actings ds) stand (length-map ds (λ d. d.acting) ∙ many) (lowest (trees.members old g)) member steps
