-- Processors after the steps of the tree in a round.
use Rattle.std.specs.Prelude.{◌≡◌, ℕ, Bool, List, Option, Some, None}
use Rattle.fk_tree.specs.Tree.{Tree}
use Rattle.fk_meaning.specs.Group.{does, goes_onward}
use Rattle.fk_meaning.specs.Round.{Step, Runner, settled}
use Rattle.fk_core.specs.declared.op.CoreOp.{CoreOp}
use Rattle.fk_core.specs.Next.{Position}
use Rattle.fk_replay_steps.specs.Steps.{runner_of}
use Rattle.fk_replay_phases.specs.declared.actor.Actor.{Actor}
use Rattle.fk_replay_phases.specs.Actors.{actings_of, runners_of, due_of, HaveNone}
use Rattle.fk_replay_phases.specs.Modes.{HaveModes}
use Rattle.fk_replay_trees.specs.Changes.{mode_as}

-- a processor after its own part of a step, if it took one, in a group of this size
abbrev pub settled_as : (highest lowest size : ℕ) → Runner Position → Option (Step Position)
    → Runner Position
settled_as highest lowest size r None = r
settled_as highest lowest size r (Some step) = record {
  left = step.rest (goes_onward step.operation highest lowest r.has);
  has = does step.operation highest size r.has;
}

-- a processor has done its own part of a step, if it took one
pub record HasSettled (core : List CoreOp) (highest lowest size : ℕ) (is_root : Bool)
    (old new : Actor) : Type 0 where
  pub runner : runner_of new.runner
      ≡ settled_as highest lowest size (runner_of old.runner) (due_of core old)
  pub free : new.taken ≡ None
  pub mode : new.mode ≡ mode_as highest lowest is_root old old.taken

-- all processors have, and have the modes of their nodes in the new tree
pub record HaveSettled (core : List CoreOp) (old new : Tree) (before after : List Actor)
    : Type 0 where
  pub runners : runners_of after
      ≡ settled (actings_of core before) old new (actings_of core before)
  pub free : HaveNone after
  pub modes : HaveModes new after
