-- What is known of a state before each round of a run.
use Rattle.std.specs.Prelude.{◌≡◌, ℕ, true, List, Some, None, slice_get}
use Rattle.fk_tree.specs.declared.node.Kind.TheVariants.{Lockstep}
use Rattle.fk_tree.specs.Tree as t
use Rattle.fk_tree.specs.Tree.{is_member}
use Rattle.fk_meaning.specs.Processor.{Setting}
use Rattle.fk_meaning.specs.Round.{Runner, State, Round, is_possible, may_act}
use Rattle.fk_core.specs.declared.op.CoreOp.{CoreOp}
use Rattle.fk_core.specs.Next.{Position, next, landing}
use Rattle.fk_lockstep_nodes.specs.Steps.{stepping}
use Rattle.fk_lockstep_tree.specs.Steps.{AreKnown}
use Rattle.fk_lockstep_tree.specs.Runs.{StandsInTree}
use Rattle.fk_replay_phases.specs.Safe.{AreSafe}

module _ (core : List CoreOp) (set : Setting) where
  -- The processors stand in the tree and are safe. In each possible round at each node nobody
  -- changes the tree, or all its members do one step. A count of one member of a group is possible
  -- for all its members
  pub record IsSteady (s : State Position) : Type 0 where
    pub running : s.fault ≡ None
    pub stands : StandsInTree (next core) (λ w. landing core w.at) set s
    pub safe : AreSafe core set s.runners
    pub known : (round : Round) → is_possible (next core) set round s ≡ true
        → AreKnown s.tree (stepping (next core) set round s)
    pub together : (n g h count : ℕ) (r q : Runner Position) → t.kind s.tree n ≡ Some Lockstep
        → is_member g (t.members s.tree n) ≡ true → is_member h (t.members s.tree n) ≡ true
        → slice_get s.runners g ≡ Some r → slice_get s.runners h ≡ Some q
        → may_act (next core) set count r ≡ true → may_act (next core) set count q ≡ true
