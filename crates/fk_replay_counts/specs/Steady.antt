-- What holds after every schedule of possible rounds, if it holds after those of single operations.
use Rattle.std.specs.Prelude.{◌≡◌, ℕ, ◌≤◌, true, List, Option, Some, None, slice_get, slice_index}
use Rattle.fk_space.specs.Space.{IsSpace}
use Rattle.fk_tree.specs.declared.node.Kind.TheVariants.{Lockstep}
use Rattle.fk_tree.specs.Tree as t
use Rattle.fk_tree.specs.Tree.{is_member}
use Rattle.fk_meaning.specs.Processor.{Setting, setting_of, group_space}
use Rattle.fk_meaning.specs.Round.{Step, Runner, State, Round, is_possible, may_act}
use Rattle.fk_meaning.specs.Schedule.{Schedule, opening, run, ArePossible}
use Rattle.fk_lockstep_nodes.specs.Steps.{stepping}
use Rattle.fk_lockstep_tree.specs.Steps.{AreKnown}
use Rattle.fk_lockstep_tree.specs.Runs.{StandsInTree, AlwaysInTree}

module _ {W X : Type 0} (next : W → Option (Step W)) (place : W → X) (set : Setting)
    (s : State W) where
  -- Processors stand in the tree. In each possible round at each node nobody changes the tree, or
  -- all its members do one step. A count that a member of a group may have all its members may have
  pub record IsSteadyInTree : Type 0 where
    pub stands : StandsInTree next place set s
    pub known : (round : Round) → is_possible next set round s ≡ true
        → AreKnown s.tree (stepping next set round s)
    pub together : (n g h count : ℕ) (r q : Runner W) → t.kind s.tree n ≡ Some Lockstep
        → is_member g (t.members s.tree n) ≡ true → is_member h (t.members s.tree n) ≡ true
        → slice_get s.runners g ≡ Some r → slice_get s.runners h ≡ Some q
        → may_act next set count r ≡ true → may_act next set count q ≡ true

abbrev pub RunsAreSteady : (W X : Type 0) → Type 0
RunsAreSteady W X =
    (next : W → Option (Step W)) (place : W → X) (program : W) → AlwaysInTree next place program
    → (processors : ℕ) (globals firsts input : List ℕ) (schedule : Schedule)
    → let set = setting_of processors globals input in
    let first = opening processors globals input (slice_index firsts) program in
    1 ≤ processors → IsSpace (group_space set) → ArePossible next set schedule first
    → (run next set schedule first).fault ≡ None
    → IsSteadyInTree next place set (run next set schedule first)
