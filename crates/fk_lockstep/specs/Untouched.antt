-- What a round doesn't change in the tree of groups.
use Rattle.std.specs.Prelude.{◌≡◌, ◌≢◌, ℕ, ◌<◌, ◌≤◌, Bool, true, false, Option}
use Rattle.fk_meaning_operation.specs.declared.operation.Operation.{Operation}
use Rattle.fk_meaning_operation.specs.declared.operation.Operation.TheVariants as o
use Rattle.fk_tree.specs.Tree as t
use Rattle.fk_tree.specs.Tree.{is_member}
use Rattle.fk_meaning.specs.Processor.{Setting}
use Rattle.fk_meaning.specs.Round.{Step, State, Round, Acting, result}
use Rattle.fk_lockstep.specs.Together.{DoesStep}

-- an operation that changes the tree
abbrev pub changes_tree : Operation → Bool
changes_tree o.Begin = true
changes_tree (o.Split by) = true
changes_tree o.Shrink = true
changes_tree o.End = true
changes_tree o.Farm = true
changes_tree o.Seq = true
changes_tree (o.Meet true) = true
changes_tree o.Resume = true
changes_tree op = false

module _ {W : Type 0} (next : W → Option (Step W)) (setting : Setting) (round : Round)
    (s : State W) where
  -- some processor does a step at a node that changes the tree
  pub record StepsAt (n : ℕ) : Type 0 where
    pub index : ℕ
    pub acting : Acting W
    pub step : Step W
    pub does : DoesStep next setting round s index acting step
    pub changes : changes_tree step.operation ≡ true
    pub there : s.tree.places acting.runner.has.number ≡ n

  abbrev pub tree_after : t.Tree
  tree_after = (result next setting round s).tree

  -- node numbers are given, and none is taken back. An existing node gets no new members. A node at
  -- which no processor steps doesn't change, other than the root, at which a `start` makes its
  -- group. A processor that isn't a member of a node at which one steps stays where it is, unless
  -- there is a `start`
  pub record OthersStay : Type 0 where
    pub given : s.tree.given ≤ tree_after.given
    pub members : (n h : ℕ) → n < s.tree.given → is_member h (t.members tree_after n) ≡ true
        → is_member h (t.members s.tree n) ≡ true
    pub nodes : (n : ℕ) → n ≢ 0 → n < s.tree.given → (StepsAt n → ⊥)
        → tree_after.nodes n ≡ s.tree.nodes n
    pub places : (h : ℕ)
        → ((n : ℕ) (at : StepsAt n) → (at.step.operation ≢ o.Begin) × (n < s.tree.given)
        × (is_member h (t.members s.tree n) ≡ false))
        → tree_after.places h ≡ s.tree.places h

abbrev pub UntouchedNodesStay : (W : Type 0) → Type 0
UntouchedNodesStay W = (next : W → Option (Step W)) (setting : Setting) (round : Round)
    (s : State W) → OthersStay next setting round s
