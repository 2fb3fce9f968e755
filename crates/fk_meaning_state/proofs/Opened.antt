-- A state with the parts of an opening is the opening.
use Rattle.std.proofs.Common.{◌≡◌, ℕ, List, map, ap, ◌∙◌}
use Rattle.std.specs.Prelude.{slice_index, None}
use Rattle.fk_meaning_store.specs.Store.{Store, opening_store}
use Rattle.fk_meaning_store.specs.View.{store_of}
use Rattle.fk_tree.specs.Tree as t
use Rattle.fk_tree.specs.View.{tree_of}
use Rattle.fk_meaning.specs.Processor.{setting_of}
use Rattle.fk_meaning.specs.Round as run
use Rattle.fk_meaning.specs.Schedule.{beginners, opening}
use Rattle.fk_meaning_state.specs.declared.state.State.{State}
use Rattle.fk_meaning_state.specs.View.{store_in, tree_in, processors_in, runner_of, state_of}

module _ {W : Type 0} (left : W) (words firsts input : List ℕ) (p : ℕ) (s : State) where
  abbrev made : Store → t.Tree → List (run.Runner W) → run.State W
  made store tree runners = record { store = store; tree = tree; runners = runners; fault = None }

  pub opened :
      store_of (store_in s) ≡ opening_store words input
      → tree_of (tree_in s) ≡ t.root p
      → map (runner_of left) (processors_in s) ≡ beginners (setting_of p words input) (slice_index firsts) left 0 p
      → state_of left s ≡ opening p words input (slice_index firsts) left
  opened store tree runners =
      ap (λ (x : Store). made x (tree_of (tree_in s)) (map (runner_of left) (processors_in s))) store
      ∙ ap (λ (x : t.Tree). made (opening_store words input) x (map (runner_of left) (processors_in s))) tree
      ∙ ap (λ (x : List (run.Runner W)). made (opening_store words input) (t.root p) x) runners
